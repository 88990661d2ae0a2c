use Rattle.std.proofs.Common.{refl}
use Rattle.handover.proofs.list.HandedOverService.answer.Goals as goal

pub returns-clause-written : goal.returns-clause-written
returns-clause-written c =
    record {
      text = _;
      appended = c.write_handover.ensures.appended;
      of_kind = record { answer = c.call_family-answer.result; left = _; answered = c.call_family-answer.ensures.answered; roomy = c.left-left.ensures.roomy; is_text = refl };
    }
