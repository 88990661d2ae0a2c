-- Document 01, 'Disagreement limits'.
use Rattle.std.specs.Prelude.{cond, Result, Ok, Err, ℕ, eqb, ltb, Float, pos}
use Rattle.std.specs.Float.{binary64}
use Rattle.std.specs.Float.Ieee.{div, lt, of_int}
use Rattle.codec_duplex.specs.declared.limits.Disagreement.{Disagreement}
use Rattle.codec_duplex.specs.declared.limits.Disagreement.TheVariants.{Count, Rate}
use Rattle.codec_duplex.specs.declared.tally.DuplexBaseTally.{DuplexBaseTally}

-- one division of two whole numbers taken as 64-bit floats
abbrev pub rate_of : DuplexBaseTally → Float
rate_of tally = div binary64 (of_int binary64 (pos tally.disagreements)) (of_int binary64 (pos tally.bases))

-- only with at least one position both strands call: more disagreements than the count limit rejects;
-- otherwise a rate strictly above the rate limit does
unfoldable pub judged : DuplexBaseTally → (count : ℕ) (rate : Float) → Result DuplexBaseTally Disagreement
judged tally count rate =
    cond (eqb tally.bases 0) (Ok tally)
    (cond (ltb count tally.disagreements) (Err (Count tally.disagreements))
    (cond (lt rate (rate_of tally)) (Err (Rate (rate_of tally))) (Ok tally)))
