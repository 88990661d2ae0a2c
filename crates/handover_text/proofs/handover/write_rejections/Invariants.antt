use Rattle.std.proofs.Common.{length, get_or}
use Rattle.table_text.proofs.Appending.{Appending}
use Rattle.handover_text.specs.Handover.{rejected_text}
use Rattle.handover_text.proofs.handover.write_rejections.Given as goal

abbrev pub invariant-loop-record : goal.invariant-loop-record
invariant-loop-record l = Appending (λ k. rejected_text l.family (get_or l.records k 0) (get_or l.reasons k 0)) 74 l.initial.page l.page (length l.yielded)
