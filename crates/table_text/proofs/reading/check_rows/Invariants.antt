use Rattle.std.proofs.Common.{◌≡◌, ◌-◌, ◌≤◌, length}
use Rattle.table_text.specs.Reading.{table_at}
use Rattle.table_text.proofs.reading.check_rows.Given as goal

abbrev pub invariant-loop-at : goal.invariant-loop-at
invariant-loop-at g l = (l.at ≤ length l.text) × ((table_at g.R.Row.line_of l.text 2 l.start).ending ≡ (table_at g.R.Row.line_of l.text l.line l.at).ending)

abbrev pub decreases-loop-at : goal.decreases-loop-at
decreases-loop-at g l = length l.text - l.at
