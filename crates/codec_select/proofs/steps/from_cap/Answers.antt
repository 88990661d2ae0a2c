-- A family that ends here keeps its fates; any other goes on with the sides under the cap.
use Rattle.std.proofs.Common.{◌≡◌, ◌∙◌, sym, ap, refl, false}
use Rattle.std.specs.Prelude.{◌||◌}
use Rattle.std.proofs.lemmas.Bool.{or_parts}
use Rattle.codec_select.specs.Alignments.{alignments_in}
use Rattle.codec_sides.specs.Side.{with_excess}
use Rattle.codec_select.specs.Steps.{too_few, cap_is_zero, from_window, from_cap}
use Rattle.codec_select.proofs.Formed.{capped_formed}
use Rattle.codec_select.proofs.steps.from_cap.Goals as goal
use Rattle.codec_select.proofs.steps.from_cap.Goals.{Else-has_too_few_reads}

-- the cap is not 0
not-zero : (c : Else-has_too_few_reads) → cap_is_zero c.args.options ≡ false
not-zero c =
    let sides = c.args.sides.now in
    (or_parts (too_few c.args.options sides.r1 || too_few c.args.options sides.r2) (cap_is_zero c.args.options) (sym c.has_too_few_reads.ensures ∙ c.if-has_too_few_reads.false)).1

pub returns-then-has_too_few_reads : goal.returns-then-has_too_few_reads
unfolding from_cap
returns-then-has_too_few_reads c =
    rw (sym c.has_too_few_reads.ensures ∙ c.if-has_too_few_reads.true)
    (record { decision_is = c.conclude.ensures.value; fates_are = refl; r1_is = c.conclude.ensures.r1; r2_is = c.conclude.ensures.r2 })

pub overlap_of_sides-decision-requires-clause-formed : goal.overlap_of_sides-decision-requires-clause-formed
overlap_of_sides-decision-requires-clause-formed c =
    let some = not-zero (goal.at.overlap_of_sides-decision-requires-clause-formed c).Else-has_too_few_reads in
    rw (c.as_slice.ensures.records, c.keep_lowest_ranking.ensures.side_after) (capped_formed (alignments_in c.args.family.now) c.args.sides.now.r1 c.args.options c.args.family.now.ranks.now some c.requires.formed)

pub overlap_of_sides-decision-requires-clause-formed_2 : goal.overlap_of_sides-decision-requires-clause-formed_2
overlap_of_sides-decision-requires-clause-formed_2 c =
    let some = not-zero (goal.at.overlap_of_sides-decision-requires-clause-formed_2 c).Else-has_too_few_reads in
    rw (c.as_slice-2.ensures.records, c.keep_lowest_ranking-2.ensures.side_after) (capped_formed (alignments_in c.args.family.now) c.args.sides.now.r2 c.args.options c.args.family.now.ranks.now some c.requires.formed_2)

pub returns : goal.returns
unfolding from_window from_cap
returns c =
    let r1 = c.as_slice.ensures.records ∙ c.keep_lowest_ranking.ensures.side_after in
    let r2 = c.as_slice-2.ensures.records ∙ c.keep_lowest_ranking-2.ensures.side_after in
    let decided = rw (r1, r2) at c.overlap_of_sides-decision.ensures in
    rw (sym c.has_too_few_reads.ensures ∙ c.if-has_too_few_reads.false) (record {
      decision_is = c.conclude-2.ensures.value ∙ decided;
      fates_are = c.keep_lowest_ranking-2.ensures.fates_after ∙ ap (with_excess c.args.options c.args.family.now.ranks.now c.args.sides.now.r2) c.keep_lowest_ranking.ensures.fates_after;
      r1_is = rw (decided, c.keep_lowest_ranking.ensures.side_after) at c.conclude-2.ensures.r1;
      r2_is = rw (decided, c.keep_lowest_ranking-2.ensures.side_after) at c.conclude-2.ensures.r2;
    })
