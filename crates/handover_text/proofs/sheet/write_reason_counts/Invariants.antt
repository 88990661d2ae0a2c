use Rattle.std.proofs.Common.{◌+◌, get_or}
use Rattle.table_text.proofs.Appending.{Appending}
use Rattle.handover_text.specs.Sheet.{reason_text}
use Rattle.handover_text.proofs.sheet.write_reason_counts.Given as goal

abbrev pub invariant-loop-i : goal.invariant-loop-i
invariant-loop-i l = Appending (λ k. reason_text (k + 1) (get_or l.counts k 0)) 47 l.initial.page l.page l.i
