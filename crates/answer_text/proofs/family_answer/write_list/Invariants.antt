use Rattle.std.proofs.Common.{length, get_or}
use Rattle.table_text.proofs.Appending.{Appending}
use Rattle.answer_text.specs.FamilyText.{listed_text}
use Rattle.answer_text.proofs.family_answer.write_list.Given as goal

abbrev pub invariant-loop-record : goal.invariant-loop-record
invariant-loop-record l = Appending (λ k. listed_text (get_or l.records k 0) (get_or l.reasons k 0)) 15 l.initial.page l.page (length l.yielded)
