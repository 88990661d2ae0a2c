-- The names, and then the lines behind them.
use Rattle.std.proofs.Common.{rules, ◌++◌}
use Rattle.table_text.proofs.Pages.{appends_then, page_written}
use Rattle.sheet_text.specs.SheetText.{sheet_names, samples_text, sheet_text}
use Rattle.sheet_text.proofs.sheet.write_text.Goals as goal

pub returns-clause-value : goal.returns-clause-value
unfolding sheet_text
returns-clause-value c =
    let lines = samples_text c.args.samples.now in
    (page_written (sheet_names ++ lines) c.new-page.ensures (appends_then sheet_names lines c.write.ensures c.write_samples.ensures)).0

pub returns-clause-output_after : goal.returns-clause-output_after
unfolding sheet_text
returns-clause-output_after c =
    let lines = samples_text c.args.samples.now in
    let whole = page_written (sheet_names ++ lines) c.new-page.ensures (appends_then sheet_names lines c.write.ensures c.write_samples.ensures) in
    search rules
