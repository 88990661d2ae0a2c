-- The name by the number.
use Rattle.table_text.proofs.Pages.{appends_none}
use Rattle.handover_text.proofs.Names.{named, unnamed}
use Rattle.handover_text.proofs.handover.write_reason.Goals as goal

pub returns-in-Ok-clause-appended : goal.returns-in-Ok-clause-appended
returns-in-Ok-clause-appended c = rw (← c.in-Ok.ensures, named) c.write_name.ensures.appended

pub returns-in_default-clause-appended : goal.returns-in_default-clause-appended
returns-in_default-clause-appended c = rw (unnamed c.args.number c.in_default.ensures) (appends_none c.args.page.now)
