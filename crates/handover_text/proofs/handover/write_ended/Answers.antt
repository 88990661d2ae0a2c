use Rattle.std.proofs.Common.{rules}
use Rattle.table_text.proofs.Pages.{appends_then}
use Rattle.answer_text.specs.Line.{line_with}
use Rattle.handover_text.specs.Handover.{ended_text}
use Rattle.handover_text.proofs.handover.write_ended.Goals as goal

pub returns-clause-appended : goal.returns-clause-appended
unfolding ended_text line_with
returns-clause-appended c = search (rules, appends_then)
