-- The paper's cases as numbers.
use Rattle.std.specs.Prelude.{Result, Ok, Err}
use Rattle.std.specs.Float.{binary64}
use Rattle.std.specs.Float.Ieee.{of_bits}
use Rattle.codec_duplex.specs.declared.answer.CombineAnswer.{CombineAnswer}
use Rattle.codec_duplex.specs.declared.combining.CombineError.{CombineError}
use Rattle.codec_duplex.specs.declared.combining.CombineError.TheVariants.{Disagreeing, ColumnsUnequal}
use Rattle.codec_duplex.specs.declared.limits.Disagreement.TheVariants.{Count, Rate}
use Rattle.codec_duplex.specs.declared.tally.DuplexBaseTally.{DuplexBaseTally}

-- kind 0: both tallies; 1: the count limit, with the disagreements; 2: the rate limit, with the rate; 3: a refusal, with its number
abbrev pub reported : Result DuplexBaseTally CombineError → CombineAnswer
reported (Ok tally) =
    record { kind = 0; refusal = 0; with = 0; bases = tally.bases; disagreements = tally.disagreements; rate = of_bits binary64 0 }
reported (Err (Disagreeing (Count disagreements))) =
    record { kind = 1; refusal = 0; with = 0; bases = 0; disagreements = disagreements; rate = of_bits binary64 0 }
reported (Err (Disagreeing (Rate rate))) = record { kind = 2; refusal = 0; with = 0; bases = 0; disagreements = 0; rate = rate }
reported (Err ColumnsUnequal) =
    record { kind = 3; refusal = 12; with = 0; bases = 0; disagreements = 0; rate = of_bits binary64 0 }
