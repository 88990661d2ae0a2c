use Rattle.std.proofs.Common.{rules}
use Rattle.table_text.proofs.Pages.{appends_then}
use Rattle.answer_text.specs.Line.{line_with}
use Rattle.handover_text.specs.Sheet.{reason_text}
use Rattle.handover_text.proofs.sheet.write_reason_count.Goals as goal

pub returns-clause-appended : goal.returns-clause-appended
unfolding reason_text line_with
returns-clause-appended c = search (rules, appends_then)
