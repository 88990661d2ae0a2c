-- Padding fills the places, and the bases are put over it where they begin.
use Rattle.std.proofs.Common.{arith}
use Rattle.codec_strands.specs.Strands.{turned_bases}
use Rattle.codec_strands.proofs.Orientation.{length-turned_bases, written_put}
use Rattle.codec_strands.proofs.bases.write_bases.Goals as goal

pub returns : goal.returns
returns c =
    let layout = c.args.layout in
    let bases = c.args.bases.now in
    let size = length-turned_bases layout.reversed bases in
    written_put layout.left 110 layout.length c.start-start.result _ (turned_bases layout.reversed bases) c.args.out.now
    (omega (arith, size)) (omega arith) c.fill.ensures (rw size c.start-start.ensures.value) (omega (arith, size)) c.copy_bases.ensures
