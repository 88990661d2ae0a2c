-- The first byte, and then the digits.
use Rattle.table_text.specs.Decimal.{number}
use Rattle.table_text.proofs.decimal.read_decimal.Goals as goal

pub returns-then-starts_plain : goal.returns-then-starts_plain
unfolding number
returns-then-starts_plain c = rw (← c.starts_plain.ensures, c.if-starts_plain.true) c.read_digits.ensures

pub returns-else-starts_plain : goal.returns-else-starts_plain
unfolding number
returns-else-starts_plain c = rw (← c.starts_plain.ensures, c.if-starts_plain.false)
