-- The field goes up to the next space or the end, and is read as a decimal.
use Rattle.table_text.specs.Fields.{number_field}
use Rattle.table_text.proofs.FieldLists.{fields_none, fields_next}
use Rattle.table_text.proofs.fields.read_number.Goals as goal

pub returns-then-line-at : goal.returns-then-line-at
unfolding number_field
returns-then-line-at c = rw (fields_none _ _ c.if-line-at.true)

pub returns-in_err-value : goal.returns-in_err-value
unfolding number_field
returns-in_err-value c =
    let found = c.part_end-end.ensures in
    rw (fields_next _ _ _ c.if-line-at.false found.0 found.1, ← c.in_err-value.ensures, c.from_residual.ensures)

pub returns : goal.returns
unfolding number_field
returns c =
    let found = c.part_end-end.ensures in
    rw (fields_next _ _ _ c.if-line-at.false found.0 found.1, ← c.in_ok-value.ensures)
