-- The names, and then the rows behind them.
use Rattle.std.proofs.Common.{◌≡◌, rules}
use Rattle.table_text.specs.InputTable.{Reading, table_of, table_from}
use Rattle.table_text.specs.Reading.{malformed_at}
use Rattle.table_text.specs.OutputTable.{output_names, rows_text, output_table}
use Rattle.table_text.specs.Page.{Appends}
use Rattle.table_text.specs.declared.page.Page.{Page}
use Rattle.table_text.proofs.Pages.{appends_then, page_written}
use Rattle.table_text.proofs.output_table.write_table.Goals as goal

module _ (table : Reading) {blank named : Page} (names : Appends output_names blank named) where
  -- of wrong names no row is written
  alone : table ≡ malformed_at 1 → Appends (output_table table.rows) blank named
  unfolding output_table rows_text
  alone is = rw is names

  followed : (rest : Reading) {page : Page} → table ≡ rest → Appends (rows_text rest.rows) named page → Appends (output_table table.rows) blank page
  unfolding output_table
  followed rest is rows = rw is (appends_then output_names (rows_text rest.rows) names rows)

pub returns-in_default-clause-value : goal.returns-in_default-clause-value
returns-in_default-clause-value c =
    let table = table_of c.args.input.now in
    (page_written (output_table table.rows) c.new-page.ensures (alone table c.write.ensures c.in_default.ensures)).0

pub returns-in_default-clause-output_after : goal.returns-in_default-clause-output_after
returns-in_default-clause-output_after c =
    let table = table_of c.args.input.now in
    let whole = page_written (output_table table.rows) c.new-page.ensures (alone table c.write.ensures c.in_default.ensures) in
    search rules

pub returns-clause-value : goal.returns-clause-value
returns-clause-value c =
    let table = table_of c.args.input.now in
    (page_written (output_table table.rows) c.new-page.ensures (followed table c.write.ensures (table_from c.args.input.now 2 c.in-Some.start) c.in-Some.ensures.1 c.write_rows.ensures)).0

pub returns-clause-output_after : goal.returns-clause-output_after
returns-clause-output_after c =
    let table = table_of c.args.input.now in
    let whole = page_written (output_table table.rows) c.new-page.ensures (followed table c.write.ensures (table_from c.args.input.now 2 c.in-Some.start) c.in-Some.ensures.1 c.write_rows.ensures) in
    search rules
