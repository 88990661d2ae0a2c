use Rattle.std.proofs.Common.{refl}
use Rattle.family_table.proofs.answers.AnswersService.answer.Goals as goal

pub returns-clause-written : goal.returns-clause-written
returns-clause-written c =
    record {
      text = _;
      appended = c.write_answer.ensures;
      of_kind = record { answer = c.call_family-answer.result; left = _; answered = c.call_family-answer.ensures.answered; roomy = c.left.ensures.roomy; is_text = refl };
    }
