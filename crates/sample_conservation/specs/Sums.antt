-- Document 02, Req 01: 'each run figure but the two rates is the sum of the samples' figures'.
use Rattle.std.specs.Prelude.{List, [], ◌∷◌, ◌≡◌, ℕ, ◌<◌, get_or}
use Rattle.lists.specs.Total.{total}
use Rattle.codec_stats.specs.Ledger.{Counts, fresh, filtered, plus}

-- counts added up, count by count
unfoldable pub summed : List Counts → Counts
summed [] = fresh
summed (counts ∷ later) = plus counts (summed later)

-- the 20 counts, and filtered
pub record Sums (run : Counts) (samples : List Counts) : Type 0 where
  pub families : run.families ≡ total (λ l. l.families) samples
  pub records : run.records ≡ total (λ l. l.records) samples
  pub reasons : (i : ℕ) → i < 10 → get_or run.reasons i 0 ≡ total (λ l. get_or l.reasons i 0) samples
  pub passed_over : run.passed_over ≡ total (λ l. l.passed_over) samples
  pub no_strand : run.no_strand ≡ total (λ l. l.no_strand) samples
  pub used : run.used ≡ total (λ l. l.used) samples
  pub disagreement_rejected : run.disagreement_rejected ≡ total (λ l. l.disagreement_rejected) samples
  pub duplexes : run.duplexes ≡ total (λ l. l.duplexes) samples
  pub bases : run.bases ≡ total (λ l. l.bases) samples
  pub duplex_bases : run.duplex_bases ≡ total (λ l. l.duplex_bases) samples
  pub disagreements : run.disagreements ≡ total (λ l. l.disagreements) samples
  pub filtered-sum : filtered run ≡ total filtered samples
