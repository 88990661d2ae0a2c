-- The first i places are copied, from the last on; a turn copies one more.
use Rattle.std.proofs.Common.{sym, ◌∙◌, reverse, arith}
use Rattle.std.proofs.lemmas.List.{length-reverse, get_or-reverse}
use Rattle.codec_strands.proofs.Orientation.{copied_more, copied_all}
use Rattle.codec_strands.proofs.column.copy_turned.Goals as goal

pub loop-i-preserved : goal.loop-i-preserved
loop-i-preserved g c =
    let column = c.args.column.now in
    let i = c.loop-i.i in
    let size = length-reverse column in
    copied_more (reverse column) c.args.places.now i (omega (arith, size)) (omega (arith, size)) c.loop-i.invariant
    (c.index-column-n.is ∙ sym (get_or-reverse column i c.index-column-n.result (omega arith)))

pub returns : goal.returns
returns g c =
    let column = c.args.column.now in
    let size = length-reverse column in
    rw c.if-not-reversed.false (copied_all (reverse column) c.args.places.now c.loop-i.i (omega (arith, size)) (omega (arith, size)) c.loop-i.invariant)
