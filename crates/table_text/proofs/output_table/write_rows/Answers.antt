-- Writing the rows left behind those that are written gives what writing all of them gives.
use Rattle.std.proofs.Common.{◌≡◌, ◌+◌, ℕ, List, [], ◌∷◌, ◌∙◌, ap, arith}
use Rattle.codec_duplex.specs.Position.{combined}
use Rattle.codec_duplex.specs.declared.position.Position.{Position}
use Rattle.table_text.specs.InputTable.{Reading, table_from}
use Rattle.table_text.specs.OutputTable.{position_text, rows_text}
use Rattle.table_text.specs.Page.{Appends}
use Rattle.table_text.specs.Rows.{row_of}
use Rattle.table_text.specs.declared.page.Page.{Page}
use Rattle.table_text.proofs.Pages.{appends_none, appends_then}
use Rattle.table_text.proofs.Tables.{table_end}
use Rattle.table_text.proofs.output_table.write_rows.Goals as goal

module _ (input : List ℕ) (start : ℕ) (blank : Page) where
  -- what completes the rows left completes them all
  abbrev Completes : ℕ → ℕ → Page → Type 0
  Completes line at written = (page : Page) → Appends (rows_text (table_from input line at).rows) written page → Appends (rows_text (table_from input 2 start).rows) blank page

  -- where no row is left, all are written
  all_written : (line at : ℕ) (written : Page) → Completes line at written → (table_from input line at).rows ≡ [] → Appends (rows_text (table_from input 2 start).rows) blank written
  unfolding rows_text
  all_written line at written completes none = completes written (rw none (appends_none written))

  -- one more row is written
  row_written : (line at after : ℕ) (row : Position × Position) (p : Position) {written new : Page} → Completes line at written
      → (table_from input line at).rows ≡ row ∷ (table_from input (line + 1) after).rows → p ≡ combined row.0 row.1 → Appends (position_text p) written new → Completes (line + 1) after new
  unfolding rows_text
  row_written line at after row p completes whole is appended page more =
      completes page (rw whole (appends_then (position_text (combined row.0 row.1)) (rows_text (table_from input (line + 1) after).rows) (rw is at appended) more))

pub returns-in_default : goal.returns-in_default
returns-in_default c =
    all_written c.args.input.now c.args.start c.args.page.now c.loop-at.line c.loop-at.at c.loop-at.page c.loop-at.invariant.completes (ap (λ (r : Reading). r.rows) c.in_default.ensures)

pub loop-at-preserved : goal.loop-at-preserved
loop-at-preserved c =
    let at = c.loop-at in
    let row = c.in-Some.ensures in
    record {
      within = row.2;
      first = omega arith;
      last = omega (arith, row.0);
      short = omega (arith, c.write_position.ensures.upper_bound);
      size = c.write_position.ensures.appended.size ∙ at.invariant.size;
      completes = row_written c.args.input.now c.args.start c.args.page.now at.line at.at c.in-Some.after (c.in-Some.first, c.in-Some.second) c.combine.result at.invariant.completes (ap (λ (r : Reading). r.rows) row.3) c.combine.ensures c.write_position.ensures.appended;
    }

pub returns : goal.returns
returns c = all_written c.args.input.now c.args.start c.args.page.now c.loop-at.line c.loop-at.at c.loop-at.page c.loop-at.invariant.completes (ap (λ (r : Reading). r.rows) (table_end row_of _ _ _ c.loop-at-test.false))
