-- A ledger is given by its 20 counts, and any 20 numbers are the counts of a ledger.
use mathlib.Core.List.{List, [], ◌∷◌, ◌++◌}
use mathlib.Core.Path.{◌≡◌, refl, sym, ◌∙◌, ap}
use Prim.Native.Nat.{ℕ, ◌+◌, ◌<◌}
use native.Mathlib.Omega.{arith}
use lib.ListN.{length, get_or, take, drop}
use Rattle.lists.specs.Tabulate.{tabulate}
use Rattle.lists.proofs.Tabulate.{tabulate_get_d, get_d_tabulate, tabulate-same}
use Rattle.codec_stats.specs.Ledger.{other_counts}
use Rattle.codec_stats.specs.Counts.{counts_of, ledger_by, ledger_of}
use Rattle.codec_stats.specs.declared.ledger.Ledger.{Ledger}

-- places that agree give the same ledger
pub ledger_same : (p q : ℕ → ℕ) → ((j : ℕ) → j < 20 → p j ≡ q j) → ledger_by p ≡ ledger_by q
unfolding ledger_by
ledger_same p q same = λ k.
    record {
      families = same 0 (omega arith) k;
      records = same 1 (omega arith) k;
      reasons = tabulate-same (λ i. p (i + 2)) (λ i. q (i + 2)) 10 (λ i h. same (i + 2) (omega arith)) k;
      passed_over = same 12 (omega arith) k;
      no_strand = same 13 (omega arith) k;
      used = same 14 (omega arith) k;
      disagreement_rejected = same 15 (omega arith) k;
      duplexes = same 16 (omega arith) k;
      bases = same 17 (omega arith) k;
      duplex_bases = same 18 (omega arith) k;
      disagreements = same 19 (omega arith) k;
    }

pub length_counts : (l : Ledger) → length (counts_of l) ≡ 20
unfolding counts_of tabulate
length_counts l = refl

-- a ledger has ten reasons
pub reasons_back : (l : Ledger) → length l.reasons ≡ 10 → tabulate (λ i. get_or l.reasons i 0) 10 ≡ l.reasons
reasons_back l ten = ap (tabulate (λ i. get_or l.reasons i 0)) (sym ten) ∙ tabulate_get_d l.reasons 0

ten_counted : (l : Ledger) → tabulate (λ i. get_or (counts_of l) (i + 2) 0) 10 ≡ tabulate (λ i. get_or l.reasons i 0) 10
unfolding counts_of tabulate
ten_counted l = refl

-- the counts of a ledger are those of no other
pub ledger_counts : (l : Ledger) → length l.reasons ≡ 10 → ledger_of (counts_of l) ≡ l
unfolding ledger_by counts_of tabulate
ledger_counts l ten = λ k.
    record {
      families = l.families;
      records = l.records;
      reasons = (ten_counted l ∙ reasons_back l ten) k;
      passed_over = l.passed_over;
      no_strand = l.no_strand;
      used = l.used;
      disagreement_rejected = l.disagreement_rejected;
      duplexes = l.duplexes;
      bases = l.bases;
      duplex_bases = l.duplex_bases;
      disagreements = l.disagreements;
    }

-- and the ledger of 20 numbers has these
counts_are : (place : ℕ → ℕ) → counts_of (ledger_by place) ≡ tabulate place 20
unfolding ledger_by counts_of tabulate
counts_are place = refl

pub counts_ledger : (place : ℕ → ℕ) (j : ℕ) → j < 20 → get_or (counts_of (ledger_by place)) j 0 ≡ place j
counts_ledger place j h = rw (counts_are place) (get_d_tabulate place 20 j 0 h)

pub counts_back : (counts : List ℕ) → length counts ≡ 20 → counts_of (ledger_of counts) ≡ counts
counts_back counts twenty =
    counts_are (λ j. get_or counts j 0) ∙ ap (tabulate (λ j. get_or counts j 0)) (sym twenty) ∙ tabulate_get_d counts 0

-- all counts but the families
pub others_counted : (l : Ledger) → length l.reasons ≡ 10 → take 19 (drop 1 (counts_of l)) ≡ other_counts l
unfolding counts_of tabulate
others_counted l ten =
    ap (λ reasons. l.records ∷ (reasons ++ (l.passed_over ∷ l.no_strand ∷ l.used ∷ [])) ++ (l.disagreement_rejected ∷ l.duplexes ∷ l.bases ∷ l.duplex_bases ∷ l.disagreements ∷ [])) (reasons_back l ten)
