-- The first places of the local columns are what the family's columns say of the side's records.
use Rattle.std.proofs.Common.{◌≡◌, ◌∙◌, ap, ℕ, List, false, get_or, length, take, rules}
use Rattle.std.proofs.Math.Path.{fun_ext}
use Rattle.lists.specs.Written.{written}
use Rattle.vanilla_caller.specs.Group.{staying}
use Rattle.codec_sides.specs.Side.{gathered, orientations, in_group}
use Rattle.codec_sides.proofs.Gathered.{length-gathered, take-gathered, list_gathered, has_gathered}
use Rattle.codec_sides.proofs.staying.filter_to_most_common_alignment_raw.Goals as goal
use Rattle.codec_sides.proofs.staying.filter_to_most_common_alignment_raw.Goals.{After-gather, After-gather-2, After-gather-3, After-gather_reverse}

own-clipped : (c : After-gather) → let args = c.args in take (length args.side.now) c.gather.new.out ≡ gathered 0 args.clipped.now args.side.now
own-clipped c = let column = c.args.clipped.now in take-gathered 0 column c.args.side.now _ (c.gather.ensures (λ r. get_or column r 0) (λ r x read. search rules))

own-starts : (c : After-gather-2) → let args = c.args in take (length args.side.now) c.gather-2.new.out ≡ gathered 0 args.starts.now args.side.now
own-starts c = let column = c.args.starts.now in take-gathered 0 column c.args.side.now _ (c.gather-2.ensures (λ r. get_or column r 0) (λ r x read. search rules))

own-counts : (c : After-gather-3) → let args = c.args in take (length args.side.now) c.gather-3.new.out ≡ gathered 0 args.counts.now args.side.now
own-counts c = let column = c.args.counts.now in take-gathered 0 column c.args.side.now _ (c.gather-3.ensures (λ r. get_or column r 0) (λ r x read. search rules))

own-reverse : (c : After-gather_reverse) → let args = c.args in take (length args.side.now) c.gather_reverse.new.out ≡ gathered false (orientations args.flags.now) args.side.now
own-reverse c = take-gathered false (orientations c.args.flags.now) c.args.side.now _ c.gather_reverse.ensures

pub returns : goal.returns
unfolding in_group
returns c =
    let f = c.args in
    let side = c.args.side.now in
    let at = goal.at.returns c in
    let selected = rw (own-clipped at.After-gather, own-starts at.After-gather-2, own-counts at.After-gather-3, own-reverse at.After-gather_reverse) at c.select_most_common_alignment_group.ensures in
    selected
    ∙ ap (λ (lists : ℕ → List ℕ). written (staying (gathered 0 f.clipped.now side) lists) c.args.stays.now)
    (fun_ext (list_gathered f.ops.now f.starts.now f.counts.now (orientations f.flags.now) side))

pub invariant_of-records : goal.invariant_of-records
invariant_of-records c =
    let f = c.args in
    let at = goal.at.invariant_of-records c in
    record {
      has_records =
          rw (own-clipped at.After-gather, own-starts at.After-gather-2, own-counts at.After-gather-3, own-reverse at.After-gather_reverse, length-gathered 0 f.clipped.now c.args.side.now)
          (has_gathered f.ops.now f.starts.now f.counts.now (orientations f.flags.now) c.args.side.now c.requires.have_operations);
    }
