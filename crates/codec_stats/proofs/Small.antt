-- What refusal 10 leaves of a ledger: families at most 2^28, any other count at most 2^41.
use mathlib.Core.Bool.{true, false, not}
use mathlib.Core.List.{List, [], ◌∷◌, ◌++◌}
use mathlib.Core.Path.{◌≡◌, refl}
use Prim.Native.Nat.{ℕ, ◌^◌, ◌<◌, ◌≤◌}
use native.Mathlib.Omega.{arith}
use borrow.Author.Tests.{ltb-false, leb-true, not-false}
use lib.Dec.{ltb}
use lib.ListN.{length, get_or}
use Rattle.std.specs.List.{list_all, sum}
use Rattle.std.proofs.lemmas.Bool.{and_parts, or_parts}
use Rattle.std.proofs.lemmas.List.Elements.{All-from_get_or}
use Rattle.std.proofs.lemmas.List.Sums.{sum_by-le}
use Rattle.lists.proofs.Total.{total_is_sum_by}
use Rattle.lists.proofs.Every.{list_all_at, list_all_anywhere, list_all-parts}
use Rattle.codec_stats.specs.Ledger.{filtered, record_counters, other_counts, within_limit, too_large}
use Rattle.codec_stats.specs.declared.ledger.Ledger.{Ledger}

pub record Small (l : Ledger) : Type 0 where
  pub families : l.families ≤ 268435456
  pub records : l.records ≤ 2199023255552
  pub reasons : (i : ℕ) → get_or l.reasons i 0 ≤ 2199023255552
  pub passed_over : l.passed_over ≤ 2199023255552
  pub no_strand : l.no_strand ≤ 2199023255552
  pub used : l.used ≤ 2199023255552
  pub rejected : l.disagreement_rejected ≤ 2199023255552
  pub duplexes : l.duplexes ≤ 2199023255552
  pub bases : l.bases ≤ 2199023255552
  pub duplex_bases : l.duplex_bases ≤ 2199023255552
  pub disagreements : l.disagreements ≤ 2199023255552

pub small : (l : Ledger) → too_large l ≡ false → Small l
unfolding too_large
small l e =
    record {
      families = ltb-false 268435456 l.families parts.0;
      records = leb-true l.records 2199023255552 first.0;
      reasons = λ i. leb-true (get_or l.reasons i 0) 2199023255552 (list_all_anywhere within_limit l.reasons 0 refl counters.0 i);
      passed_over = leb-true l.passed_over 2199023255552 (list_all_at within_limit three 0 counters.1 0 (omega arith));
      no_strand = leb-true l.no_strand 2199023255552 (list_all_at within_limit three 0 counters.1 1 (omega arith));
      used = leb-true l.used 2199023255552 (list_all_at within_limit three 0 counters.1 2 (omega arith));
      rejected = leb-true l.disagreement_rejected 2199023255552 (list_all_at within_limit five 0 rest.1 0 (omega arith));
      duplexes = leb-true l.duplexes 2199023255552 (list_all_at within_limit five 0 rest.1 1 (omega arith));
      bases = leb-true l.bases 2199023255552 (list_all_at within_limit five 0 rest.1 2 (omega arith));
      duplex_bases = leb-true l.duplex_bases 2199023255552 (list_all_at within_limit five 0 rest.1 3 (omega arith));
      disagreements = leb-true l.disagreements 2199023255552 (list_all_at within_limit five 0 rest.1 4 (omega arith));
    }
  where
    three : List ℕ
    three = l.passed_over ∷ l.no_strand ∷ l.used ∷ []

    five : List ℕ
    five = l.disagreement_rejected ∷ l.duplexes ∷ l.bases ∷ l.duplex_bases ∷ l.disagreements ∷ []

    parts : (ltb 268435456 l.families ≡ false) × (not (list_all within_limit (other_counts l)) ≡ false)
    parts = or_parts (ltb 268435456 l.families) (not (list_all within_limit (other_counts l))) e

    first : (within_limit l.records ≡ true) × (list_all within_limit (record_counters l ++ five) ≡ true)
    first = and_parts (within_limit l.records) (list_all within_limit (record_counters l ++ five)) (not-false (list_all within_limit (other_counts l)) parts.1)

    rest : (list_all within_limit (record_counters l) ≡ true) × (list_all within_limit five ≡ true)
    rest = list_all-parts within_limit (record_counters l) five first.1

    counters : (list_all within_limit l.reasons ≡ true) × (list_all within_limit three ≡ true)
    counters = list_all-parts within_limit l.reasons three rest.0

-- ten of them have a sum of at most 45 bits
pub reasons_fit : (l : Ledger) → length l.reasons ≡ 10 → too_large l ≡ false → sum l.reasons < 2 ^ 64
reasons_fit l ten e =
    let few = sum_by-le (λ n. n) 2199023255552 l.reasons (All-from_get_or (λ n. n ≤ 2199023255552) l.reasons 0 (λ i h. (small l e).reasons i)) in
    omega (arith, few, ten)

pub filtered_is_sum : (l : Ledger) → filtered l ≡ sum l.reasons
unfolding filtered
filtered_is_sum l = total_is_sum_by (λ n. n) l.reasons
