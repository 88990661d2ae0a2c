-- The records of the group that were passed are marked.
use Rattle.std.proofs.Common.{◌≡◌, length, slice_index, take, filter}
use Rattle.raw_bam.specs.Prefix.{is_prefix}
use Rattle.vanilla_caller.specs.Lists.{lists_of}
use Rattle.vanilla_caller.proofs.Marks.{says_members}
use Rattle.vanilla_caller.proofs.group.InOrder.mark_group.Given as goal

abbrev pub invariant-loop-i : goal.invariant-loop-i
invariant-loop-i l =
    let lists = lists_of l.self.side.now in
    let order = l.self.order.now in
    let own = lists (slice_index order l.place) in
    l.stays ≡ says_members (length order) l.fn.stays (filter (λ i. is_prefix (lists i) own) (take l.i-index l.i-items))
