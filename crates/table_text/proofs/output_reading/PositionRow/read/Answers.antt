-- After the position there is a field exactly where its end is not past the line's.
use Rattle.table_text.specs.Rows.{position_line}
use Rattle.table_text.proofs.FieldLists.{fields_whole, alone-fields}
use Rattle.table_text.proofs.output_reading.PositionRow.read.Goals as goal

pub returns-in_err-position : goal.returns-in_err-position
unfolding position_line
returns-in_err-position c = rw (fields_whole _, ← c.in_err-position.ensures, c.from_residual.ensures)

pub returns : goal.returns
unfolding position_line
returns c = rw (fields_whole _, ← c.in_ok-position.ensures, alone-fields, c.then_some.ensures)
