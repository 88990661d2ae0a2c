-- The first i places are copied; a turn copies one more.
use Rattle.std.proofs.Common.{arith}
use Rattle.codec_strands.proofs.Orientation.{copied_more, copied_all}
use Rattle.codec_strands.proofs.column.copy.Goals as goal

pub loop-i-preserved : goal.loop-i-preserved
loop-i-preserved g c = copied_more c.args.column.now c.args.places.now c.loop-i.i (omega arith) (omega arith) c.loop-i.invariant c.index-column-i.is

pub returns : goal.returns
returns g c = copied_all c.args.column.now c.args.places.now c.loop-i.i (omega arith) (omega arith) c.loop-i.invariant
