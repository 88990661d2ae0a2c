-- A turn lists one record more, where it is rejected.
use Rattle.std.proofs.Common.{◌≡◌, ◌∙◌, ◌+◌, ◌++◌, ◌∷◌, [], length, get_or, length-append, sym, ap, arith}
use Rattle.std.proofs.lemmas.List.{append-nil}
use Rattle.lists.proofs.Map.{written-map_more}
use Rattle.lists.proofs.Written.{written_more}
use Rattle.codec_rejects.proofs.Listing.{rejected, rejected_more, length_entries, records_rejected, reasons_rejected}
use Rattle.codec_rejects.proofs.rejects.write_list.Goals as goal
use Rattle.codec_rejects.proofs.rejects.write_list.Goals.{then-is_rejection, else-is_rejection}

pub loop-i-preserved : goal.loop-i-preserved
loop-i-preserved c =
    let fates = c.args.fates.now in
    let i = c.loop-i.i in
    let listed = rejected fates i in
    let so_far = c.loop-i.invariant in
    elim c.if-is_rejection.branch [
      | then-is_rejection w ↦
          let more : rejected fates (i + 1) ≡ listed ++ (i ∷ []) = rw (sym c.is_rejection.ensures ∙ w.if-is_rejection.true) at (rejected_more fates i) in
          record {
            count_is = rw (more, length-append) (w.count-is ∙ ap (λ n. n + 1) so_far.count_is);
            few = omega (arith, w.count-is);
            records_are = rw more (w.records-is ∙ rw (so_far.records_are, so_far.count_is) (written_more listed c.args.records.now i (omega arith)));
            reasons_are = rw more (w.reasons-is ∙ rw (so_far.reasons_are, so_far.count_is) (written-map_more (λ k. get_or fates k 0) listed i c.args.reasons.now (omega arith)));
          }
      | else-is_rejection w ↦
          let same : rejected fates (i + 1) ≡ listed = (rw (sym c.is_rejection.ensures ∙ w.if-is_rejection.false) at (rejected_more fates i)) ∙ append-nil listed in
          record {
            count_is = rw same (w.count-is ∙ so_far.count_is);
            few = omega (arith, w.count-is);
            records_are = rw same (w.records-is ∙ so_far.records_are);
            reasons_are = rw same (w.reasons-is ∙ so_far.reasons_are);
          }
    ]

pub returns-clause-value : goal.returns-clause-value
returns-clause-value c =
    let end : c.loop-i.i ≡ length c.args.fates.now = omega arith in
    (rw end at c.loop-i.invariant.count_is) ∙ sym (length_entries c.args.fates.now)

pub returns-clause-records_after : goal.returns-clause-records_after
returns-clause-records_after c =
    let end : c.loop-i.i ≡ length c.args.fates.now = omega arith in
    rw records_rejected (rw end at c.loop-i.invariant.records_are)

pub returns-clause-reasons_after : goal.returns-clause-reasons_after
returns-clause-reasons_after c =
    let end : c.loop-i.i ≡ length c.args.fates.now = omega arith in
    rw reasons_rejected (rw end at c.loop-i.invariant.reasons_are)
