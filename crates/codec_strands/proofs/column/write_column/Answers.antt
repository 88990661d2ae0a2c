-- Padding fills the places, and the column is put over it where it begins.
use Rattle.std.proofs.Common.{arith}
use Rattle.codec_strands.specs.Strands.{turned}
use Rattle.codec_strands.proofs.Orientation.{length-turned, written_put}
use Rattle.codec_strands.proofs.column.write_column.Goals as goal

pub returns : goal.returns
returns g c =
    let layout = c.args.layout in
    let column = c.args.column.now in
    let size = length-turned layout.reversed column in
    written_put layout.left c.args.pad layout.length c.start-start.result _ (turned layout.reversed column) c.args.out.now
    (omega (arith, size)) (omega arith) c.fill.ensures (rw size c.start-start.ensures.value) (omega (arith, size)) c.copy_turned.ensures
