use Rattle.std.proofs.Common.{◌≡◌, replicate}
use Rattle.lists.specs.Written.{written}
use Rattle.codec_strands.proofs.column.fill.Given as goal

abbrev pub invariant-loop-place : goal.invariant-loop-place
invariant-loop-place g l = l.out ≡ written (replicate l.place-index l.value) l.initial.out
