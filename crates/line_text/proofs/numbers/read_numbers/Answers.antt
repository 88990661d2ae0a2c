-- The tag, then the numbers behind it.
use Rattle.line_text.specs.Numbers.{numbers_line}
use Rattle.line_text.proofs.numbers.read_numbers.Goals as goal

pub returns-in_err-start : goal.returns-in_err-start
unfolding numbers_line
returns-in_err-start g c = rw (c.from_residual.ensures, ← c.in_err-start.ensures)

pub returns-in_err-n : goal.returns-in_err-n
unfolding numbers_line
returns-in_err-n g c = rw (c.from_residual-in_err-n.ensures, ← c.in_ok-start.ensures, ← c.in_err-n.ensures.numbers)

pub returns : goal.returns
unfolding numbers_line
returns g c = rw (← c.in_ok-start.ensures, ← c.in_ok-n.ensures.numbers)
