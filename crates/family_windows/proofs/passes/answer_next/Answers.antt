-- The lines in front set what is handed, and the family hands it on.
use Rattle.std.proofs.Common.{sym}
use Rattle.family_windows.specs.Going.{here, end, family}
use Rattle.family_windows.proofs.passes.answer_next.Goals as goal

pub returns-in-Some-clause-goes : goal.returns-in-Some-clause-goes
returns-in-Some-clause-goes g c = family here (sym (rw c.in-Some.is at c.in_ok-call.ensures.reads.same)) c.answer.ensures.handed_on

pub returns-in_default-clause-goes : goal.returns-in_default-clause-goes
returns-in_default-clause-goes g c = end here (sym (rw c.in_default.is at c.in_ok-call.ensures.reads.same))
