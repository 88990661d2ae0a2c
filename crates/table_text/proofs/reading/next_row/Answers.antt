-- A line that may hold a row; and what it says.
use Rattle.std.proofs.Common.{sym}
use Rattle.table_text.proofs.Tables.{line_malformed, line_wrong, line_row}
use Rattle.table_text.proofs.reading.next_row.Goals as goal

pub returns-in_err-end : goal.returns-in_err-end
returns-in_err-end g c = rw c.from_residual.ensures (line_malformed g.R.Row.line_of _ _ _ c.requires c.in_err-end.ensures)

pub returns-in_err-row : goal.returns-in_err-row
returns-in_err-row g c = rw c.from_residual-in_err-row.ensures (line_wrong g.R.Row.line_of _ _ _ _ c.in_ok-end.ensures (sym c.in_err-row.ensures))

pub returns : goal.returns
returns g c = line_row g.R.Row.line_of _ _ _ _ c.in_ok-end.ensures _ (sym c.in_ok-row.ensures)
