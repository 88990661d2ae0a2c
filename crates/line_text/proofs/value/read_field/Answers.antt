-- The field goes up to the next space or the end, and is read by its kind.
use Rattle.table_text.proofs.FieldLists.{fields_none, fields_next}
use Rattle.line_text.specs.Value.{value_field}
use Rattle.line_text.proofs.value.read_field.Goals as goal

pub returns-then-line-at : goal.returns-then-line-at
unfolding value_field
returns-then-line-at c = rw (fields_none _ _ c.if-line-at.true)

pub returns-in_err-value : goal.returns-in_err-value
unfolding value_field
returns-in_err-value c =
    let found = c.part_end-end.ensures in
    rw (fields_next _ _ _ c.if-line-at.false found.0 found.1, ← c.in_err-value.ensures, c.from_residual.ensures)

pub returns : goal.returns
unfolding value_field
returns c =
    let found = c.part_end-end.ensures in
    rw (fields_next _ _ _ c.if-line-at.false found.0 found.1, ← c.in_ok-value.ensures)
