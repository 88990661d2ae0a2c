use Rattle.family_windows.proofs.Pages.{adds_nothing}
use Rattle.sample_sheet.proofs.sheet.SheetAloneService.answer.Goals as goal

pub returns-clause-written : goal.returns-clause-written
returns-clause-written c = adds_nothing _
