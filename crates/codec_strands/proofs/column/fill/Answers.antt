use Rattle.std.proofs.Common.{arith}
use Rattle.codec_strands.proofs.Orientation.{filled_more}
use Rattle.codec_strands.proofs.column.fill.Goals as goal

pub loop-place-preserved : goal.loop-place-preserved
loop-place-preserved g c = filled_more c.args.value c.args.out.now c.loop-place.place-index (omega arith) c.loop-place.invariant
