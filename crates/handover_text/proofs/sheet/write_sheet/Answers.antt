use Rattle.std.proofs.Common.{rules}
use Rattle.table_text.proofs.Pages.{appends_then}
use Rattle.handover_text.specs.Sheet.{sheet_text}
use Rattle.handover_text.proofs.sheet.write_sheet.Goals as goal

pub returns-clause-appended : goal.returns-clause-appended
unfolding sheet_text
returns-clause-appended c = let rates = rw c.rates.ensures at c.write_rates.ensures.appended in search (rules, appends_then)
