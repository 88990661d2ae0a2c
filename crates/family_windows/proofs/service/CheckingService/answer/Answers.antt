use Rattle.family_windows.proofs.Pages.{adds_nothing}
use Rattle.family_windows.proofs.service.CheckingService.answer.Goals as goal

pub returns-clause-written : goal.returns-clause-written
returns-clause-written c = adds_nothing _
