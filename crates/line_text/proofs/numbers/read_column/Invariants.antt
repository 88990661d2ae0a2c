-- The column holds the numbers of the fields passed; the fields left are those for which there is still room.
use Rattle.std.proofs.Common.{◌≡◌, ◌-◌, length, take, map}
use Rattle.table_text.specs.Fields.{fields_from}
use Rattle.line_text.specs.Numbers.{after, numbers_of}
use Rattle.line_text.proofs.numbers.read_column.Given as goal

abbrev pub invariant-loop-n : goal.invariant-loop-n
invariant-loop-n g l =
    (length l.column ≡ length l.initial.column) × (numbers_of (length l.column) g.T.Entry.GREATEST (fields_from l.line l.start) ≡ after (map g.T.Entry.number (take l.n l.column)) (numbers_of (length l.column - l.n) g.T.Entry.GREATEST (fields_from l.line l.at)))
