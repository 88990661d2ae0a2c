-- The count of each reason behind those that are written.
use Rattle.std.proofs.Common.{arith}
use Rattle.table_text.proofs.Appending.{appending_none, appending_more, appending_all}
use Rattle.handover_text.specs.Sheet.{reasons_text}
use Rattle.handover_text.proofs.sheet.write_reason_counts.Goals as goal

pub loop-i-init : goal.loop-i-init
loop-i-init c = appending_none _ 47 _

pub loop-i-preserved : goal.loop-i-preserved
loop-i-preserved c = appending_more _ 47 _ c.loop-i.invariant c.write_reason_count.ensures.appended c.write_reason_count.ensures.upper_bound

pub returns-clause-appended : goal.returns-clause-appended
unfolding reasons_text
returns-clause-appended c = appending_all _ 47 c.loop-i.invariant (omega arith) (omega arith)
