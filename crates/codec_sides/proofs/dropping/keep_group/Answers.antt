-- The flags of the side are the first places of a local column.
use Rattle.std.proofs.Common.{◌≡◌, ◌∙◌, sym, take, arith}
use Rattle.lists.proofs.Written.{take_count}
use Rattle.codec_sides.specs.Family.{in_group}
use Rattle.codec_sides.proofs.Remaining.{length-in_group, few_kept, few_dropped}
use Rattle.codec_sides.proofs.Keeping.{given_fate-none}
use Rattle.codec_sides.proofs.dropping.keep_group.Goals as goal
use Rattle.codec_sides.proofs.dropping.keep_group.Goals.{After-filter_to_most_common_alignment_raw}

own-stays : (c : After-filter_to_most_common_alignment_raw) → take c.len-n.result c.filter_to_most_common_alignment_raw.new.stays ≡ in_group c.args.family.now c.args.side.now
own-stays c =
    let f = c.args.family.now in
    take_count _ _ _ _ (c.len-n.ensures ∙ sym (length-in_group f.ops.now f.clipped.now f.starts.now f.counts.now f.flags.now c.args.side.now))
    (rw c.as_slice.ensures.records at c.filter_to_most_common_alignment_raw.ensures)

pub returns-then-n-lt2-clause-side_after : goal.returns-then-n-lt2-clause-side_after
returns-then-n-lt2-clause-side_after c = let f = c.args.family.now in sym (few_kept f.ops.now f.clipped.now f.starts.now f.counts.now f.flags.now c.args.side.now (omega arith))

pub returns-then-n-lt2-clause-fates_after : goal.returns-then-n-lt2-clause-fates_after
returns-then-n-lt2-clause-fates_after c = let f = c.args.family.now in rw (few_dropped f.ops.now f.clipped.now f.starts.now f.counts.now f.flags.now c.args.side.now (omega arith)) (sym (given_fate-none _ _))

pub returns-clause-side_after : goal.returns-clause-side_after
returns-clause-side_after c = rw (own-stays (goal.at.returns-clause-side_after c).After-filter_to_most_common_alignment_raw) at c.drop_others.ensures.side_after

pub returns-clause-fates_after : goal.returns-clause-fates_after
returns-clause-fates_after c = rw (own-stays (goal.at.returns-clause-fates_after c).After-filter_to_most_common_alignment_raw, c.from-fate.ensures) at c.drop_others.ensures.fates_after
