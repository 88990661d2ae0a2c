-- The line of each record behind those that are written.
use Rattle.std.proofs.Common.{length, arith}
use Rattle.std.proofs.Math.ListN.{length-append}
use Rattle.std.proofs.lemmas.Slice.Zip.{zip_turn, zip_end}
use Rattle.table_text.proofs.Appending.{appending_none, appending_more, appending_all}
use Rattle.handover_text.specs.Handover.{rejections_text}
use Rattle.handover_text.proofs.handover.write_rejections.Goals as goal

pub loop-record-init : goal.loop-record-init
loop-record-init c = appending_none _ 74 _

pub loop-record-preserved : goal.loop-record-preserved
loop-record-preserved c =
    let at = zip_turn c.args.records.now c.args.reasons.now c.loop-record.yielded c.into_iter-record-iterator.result c.loop-record.record-iterator c.next.new.self _ (cc) (cc) c.loop-record.yielded_by (c.in-Some.field-0-0, c.in-Some.field-0-1) c.in-Some.is c.next.ensures.steps in
    rw (length-append) (appending_more _ 74 _ c.loop-record.invariant (rw (← at.2 0, ← at.3 0) c.write_rejected.ensures.appended) c.write_rejected.ensures.upper_bound)

pub returns-clause-appended : goal.returns-clause-appended
unfolding rejections_text
returns-clause-appended c =
    let all = zip_end c.args.records.now c.args.reasons.now c.loop-record.yielded c.into_iter-record-iterator.result c.loop-record.record-iterator c.next.new.self _ (cc) (cc) c.loop-record.yielded_by c.in-None.is c.next.ensures.steps in
    appending_all _ 74 {n = length c.args.records.now} c.loop-record.invariant (omega (arith, all)) (omega (arith, all))
