use Rattle.std.proofs.Common.{rules}
use Rattle.table_text.proofs.Pages.{appends_then}
use Rattle.answer_text.specs.Line.{line_with}
use Rattle.handover_text.specs.Sheet.{rates_text}
use Rattle.handover_text.proofs.sheet.write_rates.Goals as goal

pub returns-in-Ok-clause-appended : goal.returns-in-Ok-clause-appended
unfolding rates_text line_with
returns-in-Ok-clause-appended c = rw (c.in-Ok.is) (search (rules, appends_then))
