use Rattle.std.proofs.Common.{arith}
use Rattle.lists.proofs.Map.{written-map_put}
use Rattle.codec_sides.proofs.gather.gather.Goals as goal

pub loop-k-preserved : goal.loop-k-preserved
loop-k-preserved g c =
    λ value reads.
    written-map_put value c.args.side.now 0 c.args.out.now c.loop-k.k (omega arith) (omega (arith, c.requires.room)) (c.loop-k.invariant value reads) (reads _ _ c.read.ensures)
