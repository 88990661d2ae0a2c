-- The whole text from the place on is searched.
use Rattle.std.proofs.Common.{◌≡◌, ◌+◌, drop}
use Rattle.table_text.specs.Bytes.{index_of}
use Rattle.table_text.proofs.parts.part_end.Given as goal

-- the byte stands nowhere before the end reached
abbrev pub invariant-loop-end : goal.invariant-loop-end
invariant-loop-end l = l.at + index_of l.byte (drop l.at l.text) ≡ l.end + index_of l.byte (drop l.end l.text)
