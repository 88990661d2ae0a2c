-- The ending of the table is that of the lines left.
use Rattle.std.proofs.Common.{sym, ◌∙◌}
use Rattle.table_text.proofs.Tables.{table_end}
use Rattle.table_text.proofs.reading.check_rows.Goals as goal

pub returns : goal.returns
returns g c = sym (c.loop-at.invariant.1 ∙ rw (table_end g.R.Row.line_of _ _ _ c.loop-at-test.false))
