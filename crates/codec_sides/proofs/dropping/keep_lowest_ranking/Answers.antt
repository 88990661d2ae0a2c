-- The flags of the side are the first places of a local column.
use Rattle.std.proofs.Common.{◌≡◌, ◌∙◌, sym, take}
use borrow.Author.Tests.{not-false}
use Rattle.lists.proofs.Written.{take_count}
use Rattle.codec_sides.specs.Family.{under_cap}
use Rattle.codec_sides.specs.Side.{capped, with_excess}
use Rattle.codec_sides.proofs.Remaining.{length-under_cap}
use Rattle.codec_sides.proofs.dropping.keep_lowest_ranking.Goals as goal
use Rattle.codec_sides.proofs.dropping.keep_lowest_ranking.Goals.{After-cap_infos_to_lowest_ranking}

own-stays : (c : After-cap_infos_to_lowest_ranking) → take c.len-n.result c.cap_infos_to_lowest_ranking.new.stays ≡ under_cap c.args.family.now c.args.options.max_reads_per_strand c.args.side.now
own-stays c =
    take_count _ _ _ _ (c.len-n.ensures ∙ sym (length-under_cap c.args.family.now.ranks.now c.args.options.max_reads_per_strand c.args.side.now))
    (rw c.as_slice.ensures.records at c.cap_infos_to_lowest_ranking.ensures)

pub returns-clause-side_after : goal.returns-clause-side_after
unfolding capped
returns-clause-side_after c =
    rw (not-false c.args.options.has_max_reads_per_strand c.if-not-options.false) (rw (own-stays (goal.at.returns-clause-side_after c).After-cap_infos_to_lowest_ranking) at c.drop_others.ensures.side_after)

pub returns-clause-fates_after : goal.returns-clause-fates_after
unfolding with_excess
returns-clause-fates_after c =
    rw (not-false c.args.options.has_max_reads_per_strand c.if-not-options.false)
    (rw (own-stays (goal.at.returns-clause-fates_after c).After-cap_infos_to_lowest_ranking, c.from-fate.ensures) at c.drop_others.ensures.fates_after)
