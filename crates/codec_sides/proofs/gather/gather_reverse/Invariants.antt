-- The orientations of the records before place k are written.
use Rattle.std.proofs.Common.{◌≡◌, false, take}
use Rattle.lists.specs.Written.{written}
use Rattle.codec_sides.specs.Side.{gathered, orientations}
use Rattle.codec_sides.proofs.gather.gather_reverse.Given as goal

abbrev pub invariant-loop-k : goal.invariant-loop-k
invariant-loop-k l = l.out ≡ written (gathered false (orientations l.flags) (take l.k l.side)) l.initial.out
