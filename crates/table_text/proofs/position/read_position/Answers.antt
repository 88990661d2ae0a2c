-- Each field that is read leaves the fields after it; the first that is malformed makes the position so.
use Rattle.std.proofs.Common.{◌≤◌, sym, arith}
use Rattle.table_text.specs.Rows.{position_fields}
use Rattle.table_text.proofs.FieldLists.{number_field_le}
use Rattle.table_text.proofs.position.read_position.Goals as goal

pub returns-in_err-base : goal.returns-in_err-base
unfolding position_fields
returns-in_err-base c = rw (← c.in_err-base.ensures, c.from_residual.ensures)

pub returns-in_err-quality : goal.returns-in_err-quality
unfolding position_fields
returns-in_err-quality c = rw (← c.in_ok-base.ensures, ← c.in_err-quality.ensures, c.from_residual-in_err-quality.ensures)

pub returns-in_err-depth : goal.returns-in_err-depth
unfolding position_fields
returns-in_err-depth c = rw (← c.in_ok-base.ensures, ← c.in_ok-quality.ensures, ← c.in_err-depth.ensures, c.from_residual-in_err-depth.ensures)

pub returns-in_err-error : goal.returns-in_err-error
unfolding position_fields
returns-in_err-error c =
    rw (← c.in_ok-base.ensures, ← c.in_ok-quality.ensures, ← c.in_ok-depth.ensures, ← c.in_err-error.ensures, c.from_residual-in_err-error.ensures)

pub overflow_cast-position : goal.overflow_cast-position
overflow_cast-position c =
    let h : c.in_ok-quality.quality ≤ 255 = number_field_le _ _ _ _ (sym c.in_ok-quality.ensures) in
    omega arith

pub overflow_cast-position-2 : goal.overflow_cast-position-2
overflow_cast-position-2 c =
    let h : c.in_ok-depth.depth ≤ 65535 = number_field_le _ _ _ _ (sym c.in_ok-depth.ensures) in
    omega arith

pub overflow_cast-position-3 : goal.overflow_cast-position-3
overflow_cast-position-3 c =
    let h : c.in_ok-error.error ≤ 65535 = number_field_le _ _ _ _ (sym c.in_ok-error.ensures) in
    omega arith

pub returns : goal.returns
unfolding position_fields
returns c = rw (← c.in_ok-base.ensures, ← c.in_ok-quality.ensures, ← c.in_ok-depth.ensures, ← c.in_ok-error.ensures)
