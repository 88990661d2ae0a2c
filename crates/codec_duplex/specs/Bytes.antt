-- Document 01, the combining step through numbers and byte slices: depths and errors are byte pairs, low byte first.
use Rattle.std.specs.Prelude.{Result, ◌≡◌, ℕ, Float}
use Rattle.codec_duplex.specs.Answer.{reported}
use Rattle.codec_duplex.specs.Combining.{outcome, Combining}
use Rattle.codec_duplex.specs.Kept.{Kept}
use Rattle.codec_duplex.specs.Units.{byte_pairs}
use Rattle.codec_duplex.specs.declared.answer.CombineAnswer.{CombineAnswer}
use Rattle.codec_duplex.specs.declared.combining.CombineError.{CombineError}
use Rattle.codec_duplex.specs.declared.tally.DuplexBaseTally.{DuplexBaseTally}

-- an odd length there is refusal 12; otherwise as combining alone
abbrev pub byte_outcome : (a b results : Kept ℕ) (count : ℕ) (rate : Float) → Result DuplexBaseTally CombineError
byte_outcome a b results count rate = outcome byte_pairs a b results count rate

-- combining alone, its answer told as numbers
pub record CombiningBytes (a b : Kept ℕ) (count : ℕ) (rate : Float) (told : CombineAnswer) (before after : Kept ℕ) : Type 0 where
  pub answer : told ≡ reported (byte_outcome a b before count rate)
  pub columns : Combining byte_pairs a b count rate (byte_outcome a b before count rate) before after
