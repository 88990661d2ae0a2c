use Rattle.std.proofs.Common.{rules}
use Rattle.table_text.proofs.Pages.{appends_then, appends_after}
use Rattle.answer_text.specs.Line.{line_with}
use Rattle.answer_text.proofs.columns.write_bases.Goals as goal

pub returns-clause-appended : goal.returns-clause-appended
unfolding line_with
returns-clause-appended c = search (rules, appends_then, appends_after)
