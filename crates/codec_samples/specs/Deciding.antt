-- Document 02, Req 01: a ledger that is refused as the run's and the sample's are. Only inner contracts need it.
use Rattle.std.specs.Prelude.{◌≡◌, ℕ, replicate, Ok}
use Rattle.codec_stats.specs.Ledger.{fresh, of_counts}
use Rattle.codec_stats.specs.declared.ledger.Ledger.{Ledger}
use Rattle.codec_samples.specs.SampledCall.{of_books}

-- no count but the families
abbrev pub with_families : ℕ → Ledger
with_families n =
    record {
      families = n;
      records = 0;
      reasons = replicate 10 0;
      passed_over = 0;
      no_strand = 0;
      used = 0;
      disagreement_rejected = 0;
      duplexes = 0;
      bases = 0;
      duplex_bases = 0;
      disagreements = 0;
    }

-- 01's refusals 10 and 11, read on it alone, are those of both; a fresh one where neither refuses
pub record Decides (run own deciding : Ledger) : Type 0 where
  pub refuses : of_counts deciding ≡ of_books run own
  pub else_fresh : of_books run own ≡ Ok tt → deciding ≡ fresh
