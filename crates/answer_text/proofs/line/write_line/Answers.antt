use Rattle.std.proofs.Common.{rules}
use Rattle.table_text.proofs.Pages.{appends_then}
use Rattle.answer_text.specs.Line.{line_with}
use Rattle.answer_text.proofs.line.write_line.Goals as goal

pub returns-clause-appended : goal.returns-clause-appended
unfolding line_with
returns-clause-appended g c = search (rules, appends_then)
