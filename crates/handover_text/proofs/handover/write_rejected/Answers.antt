use Rattle.std.proofs.Common.{rules}
use Rattle.table_text.proofs.Pages.{appends_then, appends_after}
use Rattle.answer_text.specs.Line.{line_with}
use Rattle.handover_text.specs.Handover.{rejected_text}
use Rattle.handover_text.proofs.handover.write_rejected.Goals as goal

pub returns-clause-appended : goal.returns-clause-appended
unfolding rejected_text line_with
returns-clause-appended c = let numbers = rw c.from.ensures at c.write_fields.ensures.appended in search (rules, appends_then, appends_after)
