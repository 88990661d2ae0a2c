-- Each record and its reason behind those that are written.
use Rattle.std.proofs.Common.{◌∷◌, [], ◌++◌, length, arith}
use Rattle.std.proofs.Math.ListN.{length-append}
use Rattle.std.proofs.lemmas.Slice.Zip.{zip_turn, zip_end}
use Rattle.table_text.proofs.Appending.{appending_none, appending_more, appending_all}
use Rattle.table_text.proofs.Pages.{appends_then, appends_after}
use Rattle.answer_text.specs.FamilyText.{listings_text, list_text}
use Rattle.answer_text.specs.Line.{line_with}
use Rattle.answer_text.proofs.family_answer.write_list.Goals as goal

pub loop-record-init : goal.loop-record-init
loop-record-init c = appending_none _ 15 _

pub loop-record-preserved : goal.loop-record-preserved
loop-record-preserved c =
    let at = zip_turn c.args.records.now c.args.reasons.now c.loop-record.yielded c.into_iter-record-iterator.result c.loop-record.record-iterator c.next.new.self _ (cc) (cc) c.loop-record.yielded_by (c.in-Some.field-0-0, c.in-Some.field-0-1) c.in-Some.is c.next.ensures.steps in
    rw (length-append) (appending_more _ 15 _ c.loop-record.invariant (rw (← at.2 0, ← at.3 0) c.write_listed.ensures.appended) c.write_listed.ensures.upper_bound)

pub returns-clause-appended : goal.returns-clause-appended
unfolding list_text listings_text line_with
returns-clause-appended c =
    let n = length c.args.records.now in
    let all = zip_end c.args.records.now c.args.reasons.now c.loop-record.yielded c.into_iter-record-iterator.result c.loop-record.record-iterator c.next.new.self _ (cc) (cc) c.loop-record.yielded_by c.in-None.is c.next.ensures.steps in
    let listings = appending_all _ 15 {n = n} c.loop-record.invariant (omega (arith, all)) (omega (arith, all)) in
    appends_after 76 (listings_text n c.args.records.now c.args.reasons.now ++ (10 ∷ [])) c.write.ensures (appends_then (listings_text n c.args.records.now c.args.reasons.now) (10 ∷ []) listings c.push.ensures)
