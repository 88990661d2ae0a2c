-- After the second position there is a field exactly where its end is not past the line's.
use Rattle.table_text.specs.Rows.{row_of}
use Rattle.table_text.proofs.FieldLists.{fields_whole, alone-fields}
use Rattle.table_text.proofs.input_table.Tuple2PositionPositionRow.read.Goals as goal

pub returns-in_err-first : goal.returns-in_err-first
unfolding row_of
returns-in_err-first c = rw (fields_whole _, ← c.in_err-first.ensures, c.from_residual.ensures)

pub returns-in_err-second : goal.returns-in_err-second
unfolding row_of
returns-in_err-second c = rw (fields_whole _, ← c.in_ok-first.ensures, ← c.in_err-second.ensures, c.from_residual-in_err-second.ensures)

pub returns : goal.returns
unfolding row_of
returns c = rw (fields_whole _, ← c.in_ok-first.ensures, ← c.in_ok-second.ensures, alone-fields, c.then_some.ensures)
