-- Document 01, 'The answers': the ledger, its figures, and refusals 10 and 11.
use Rattle.std.specs.Prelude.{Result, Ok, Err, Bool, false, cond, not, ◌||◌, List, [], ◌∷◌, ◌++◌, ◌≡◌, ℕ, ◌+◌, ◌-◌, ◌*◌, ◌/◌, ◌^◌, ◌<◌, ◌≤◌, eqb, leb, ltb, Float, pos, get_or, replicate}
use Rattle.std.specs.Float.{binary64}
use Rattle.std.specs.Float.Ieee.{div, of_bits, of_int}
use Rattle.std.specs.List.{list_all}
use Rattle.std.specs.Result.{result_map_both}
use Rattle.lists.specs.Tabulate.{tabulate}
use Rattle.lists.specs.Total.{total}
use Rattle.caller.specs.declared.refusal.LedgerRefusal.{LedgerRefusal}
use Rattle.caller.specs.declared.refusal.LedgerRefusal.TheVariants.{TooLarge, Full}
use Rattle.caller.specs.declared.refusal.Refusal.{Refusal}
use Rattle.caller.specs.declared.refusal.Refusal.TheVariants as refusals
use Rattle.codec_stats.specs.declared.ledger.Ledger.{Ledger}
use Rattle.codec_stats.specs.declared.rates.LedgerRates.{LedgerRates}

-- the ledger's 20 counts, which a history keeps too
abbrev pub Counts : Type 0
Counts = Ledger

-- 'A fresh ledger is all 0'
abbrev pub fresh : Ledger
fresh =
    record {
      families = 0;
      records = 0;
      reasons = replicate 10 0;
      passed_over = 0;
      no_strand = 0;
      used = 0;
      disagreement_rejected = 0;
      duplexes = 0;
      bases = 0;
      duplex_bases = 0;
      disagreements = 0;
    }

-- 'fates (ten reasons, passed over, no strand, used)': the record counters, in the order of the fates 1 to 13
abbrev pub record_counters : Ledger → List ℕ
record_counters l = l.reasons ++ (l.passed_over ∷ l.no_strand ∷ l.used ∷ [])

-- the counter of a fate: 1 to 10 the reasons, 11 passed over, 12 no strand, 13 used
unfoldable pub counter : ℕ → Ledger → ℕ
counter fate l =
    cond (leb fate 10) (get_or l.reasons (fate - 1) 0)
    (cond (eqb fate 11) l.passed_over
    (cond (eqb fate 12) l.no_strand
    (cond (eqb fate 13) l.used 0)))

-- 'Filtered is the sum of reasons'
unfoldable pub filtered : Ledger → ℕ
filtered l = total (λ n. n) l.reasons

-- 'Its rate is the Rust's f64': 0.0 without duplex bases
unfoldable pub rate : Ledger → Float
rate l =
    cond (eqb l.duplex_bases 0) (of_bits binary64 0)
    (div binary64 (of_int binary64 (pos l.disagreements)) (of_int binary64 (pos l.duplex_bases)))

-- 'the rate in millionths, rounded down, 0 without duplex bases'
unfoldable pub millionths : Ledger → ℕ
millionths l = cond (eqb l.duplex_bases 0) 0 (l.disagreements * 1000000 / l.duplex_bases)

-- every figure: the 20 counts, filtered and both rates
pub record Figures : Type 0 where
  pub counts : Counts
  pub filtered : ℕ
  pub rate : Float
  pub millionths : ℕ

abbrev pub figures : Ledger → Figures
figures l = record { counts = l; filtered = filtered l; rate = rate l; millionths = millionths l }

-- the counts other than families
abbrev pub other_counts : Counts → List ℕ
other_counts l = l.records ∷ record_counters l ++ (l.disagreement_rejected ∷ l.duplexes ∷ l.bases ∷ l.duplex_bases ∷ l.disagreements ∷ [])

-- a counter that is not above 2^41
abbrev pub within_limit : ℕ → Bool
within_limit n = leb n (2 ^ 41)

-- 10: 'families above 2^28 or a counter above 2^41'
unfoldable pub too_large : Counts → Bool
too_large l = ltb (2 ^ 28) l.families || not (list_all within_limit (other_counts l))

-- 11: 'families at 2^28'
unfoldable pub full : Counts → Bool
full l = eqb l.families (2 ^ 28)

-- 10, then 11, read on the counts given
abbrev pub checked : Counts → Result Unit LedgerRefusal
checked l = cond (too_large l) (Err TooLarge) (cond (full l) (Err Full) (Ok tt))

-- the same, as refusals of a call
unfoldable pub of_counts : Counts → Result Unit Refusal
of_counts l = result_map_both (λ done. done) refusals.Ledger (checked l)

-- counts, and what is added to each
unfoldable pub plus : Counts → Counts → Counts
plus l more =
    record {
      families = l.families + more.families;
      records = l.records + more.records;
      reasons = tabulate (λ i. get_or l.reasons i 0 + get_or more.reasons i 0) 10;
      passed_over = l.passed_over + more.passed_over;
      no_strand = l.no_strand + more.no_strand;
      used = l.used + more.used;
      disagreement_rejected = l.disagreement_rejected + more.disagreement_rejected;
      duplexes = l.duplexes + more.duplexes;
      bases = l.bases + more.bases;
      duplex_bases = l.duplex_bases + more.duplex_bases;
      disagreements = l.disagreements + more.disagreements;
    }

-- what can be added to counts that are not refused 10: no sum passes 64 bits
pub record Addable (l more : Counts) : Type 0 where
  pub within : too_large l ≡ false
  pub families : more.families ≤ 2 ^ 20
  pub records : more.records ≤ 2 ^ 20
  pub reasons : (i : ℕ) → i < 10 → get_or more.reasons i 0 ≤ 2 ^ 20
  pub passed_over : more.passed_over ≤ 2 ^ 20
  pub no_strand : more.no_strand ≤ 2 ^ 20
  pub used : more.used ≤ 2 ^ 20
  pub rejected : more.disagreement_rejected ≤ 2 ^ 20
  pub duplexes : more.duplexes ≤ 2 ^ 20
  pub bases : more.bases ≤ 2 ^ 20
  pub duplex_bases : more.duplex_bases ≤ 2 ^ 20
  pub disagreements : more.disagreements ≤ 2 ^ 20

-- the rates alone: filtered and both rates, or 10; 'the ledger's rates 10'
unfoldable pub rates_of : Ledger → Result LedgerRates LedgerRefusal
rates_of l = cond (too_large l) (Err TooLarge) (Ok (record { filtered = filtered l; rate = rate l; millionths = millionths l }))
