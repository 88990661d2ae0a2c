-- What a family call can answer.
use Rattle.std.specs.Prelude.{◌≤◌}
use Rattle.codec_family.specs.Ending.{called_length}
use Rattle.codec_family.specs.declared.answer.Answer.{Answer}

-- a family lists at most 512 records, and its duplex has at most 2,048 places
pub record Short (answer : Answer) : Type 0 where
  pub few : answer.listed ≤ 512
  pub short : called_length answer.ending ≤ 2048
