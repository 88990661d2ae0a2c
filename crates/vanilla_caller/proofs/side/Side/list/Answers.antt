-- The part of the words from the record's start on has as many operations as its count says.
use Rattle.std.proofs.Common.{◌≡◌, ◌+◌, ◌-◌, slice_index_or, arith}
use Rattle.lists.proofs.Written.{take_count}
use Rattle.vanilla_caller.specs.Side.{list_of}
use Rattle.vanilla_caller.proofs.side.Side.list.Goals as goal

pub returns : goal.returns
unfolding list_of
returns c =
    let side = c.args.self.now in
    let from = slice_index_or side.starts.now c.args.i 0 in
    let count = slice_index_or side.counts.now c.args.i 0 in
    let same : from + count - from ≡ count = omega arith in
    let answer = c.simplify_cigar_from_raw-count.ensures in
    take_count _ _ _ _ (rw same at answer.count) (rw same at answer.stored)
