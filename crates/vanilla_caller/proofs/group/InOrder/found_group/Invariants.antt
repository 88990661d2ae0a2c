-- The records from place k to j are marked, and those counted and those still to come are all that match.
use Rattle.std.proofs.Common.{◌≡◌, ◌+◌, ◌≤◌, length, slice_index, drop}
use Rattle.raw_bam.specs.Prefix.{is_prefix}
use Rattle.vanilla_caller.specs.Founding.{matches}
use Rattle.vanilla_caller.specs.Lists.{lists_of}
use Rattle.vanilla_caller.proofs.Marks.{Marked}
use Rattle.vanilla_caller.proofs.group.InOrder.found_group.Given as goal

abbrev pub invariant-loop-j : goal.invariant-loop-j
invariant-loop-j l =
    let lists = lists_of l.self.side.now in
    let order = l.self.order.now in
    let own = lists (slice_index order l.k) in
    (l.size ≤ l.j)
    × (l.size + length (matches lists own (drop l.j order)) ≡ length (matches lists own (drop l.k order)))
    × Marked (λ i. is_prefix (lists (slice_index order i)) own) l.initial.grouped l.k l.j l.grouped
