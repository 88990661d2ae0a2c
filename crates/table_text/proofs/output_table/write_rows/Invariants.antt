use Rattle.std.proofs.Common.{◌≡◌, ◌+◌, ◌-◌, ◌*◌, ◌≤◌, length}
use Rattle.table_text.specs.InputTable.{table_from}
use Rattle.table_text.specs.OutputTable.{rows_text}
use Rattle.table_text.specs.Page.{Appends}
use Rattle.table_text.specs.declared.page.Page.{Page}
use Rattle.table_text.proofs.output_table.write_rows.Given as goal

abbrev pub invariant-loop-at : goal.invariant-loop-at
invariant-loop-at l = record {
  within : l.at ≤ length l.input;
  first : 2 ≤ l.line;
  last : l.line ≤ 2050;
  short : l.page.end ≤ l.initial.page.end + 20 * (l.line - 2);
  size : length l.page.bytes.now ≡ length l.initial.page.bytes.now;
  completes : (page : Page) → Appends (rows_text (table_from l.input l.line l.at).rows) l.page page → Appends (rows_text (table_from l.input 2 l.start).rows) l.initial.page page;
}

abbrev pub decreases-loop-at : goal.decreases-loop-at
decreases-loop-at l = length l.input - l.at
