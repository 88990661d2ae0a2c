-- The tag, then the fields behind it.
use Rattle.line_text.specs.Line.{line_of}
use Rattle.line_text.proofs.line.read_line.Goals as goal

pub returns-in_err-start : goal.returns-in_err-start
unfolding line_of
returns-in_err-start g c = rw (c.from_residual.ensures, ← c.in_err-start.ensures)

pub returns : goal.returns
unfolding line_of
returns g c = rw (← c.in_ok-start.ensures) c.read_fields.ensures
