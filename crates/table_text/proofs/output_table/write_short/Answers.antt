-- Five digits and the byte after them.
use Rattle.std.proofs.Common.{ℕ, ◌^◌, ◌≤◌, ◌<◌, length, arith}
use Rattle.table_text.specs.OutputTable.{number_text}
use Rattle.table_text.proofs.Decimals.{length-number_text}
use Rattle.table_text.proofs.output_table.write_short.Goals as goal

six : (n after : ℕ) → n < 2 ^ 16 → length (number_text n after) ≤ 6
six n after h = length-number_text 4 n after (omega arith)

pub write_number-requires : goal.write_number-requires
write_number-requires c = rw c.from.ensures (omega (arith, six c.args.n c.args.after c.ranges.n.fits))

pub returns-clause-upper_bound : goal.returns-clause-upper_bound
returns-clause-upper_bound c = omega (arith, rw c.from.ensures at c.write_number.ensures.end, six c.args.n c.args.after c.ranges.n.fits)
