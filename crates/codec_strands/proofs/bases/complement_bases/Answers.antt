use Rattle.std.proofs.Common.{◌≡◌, ◌∙◌, ap, get_or, take, arith, length-take}
use Rattle.std.proofs.lemmas.List.{length-map}
use Rattle.lists.proofs.Map.{written-map_put}
use Rattle.lists.proofs.Written.{get_d-written_beyond}
use Rattle.codec_strands.specs.Strands.{complement}
use Rattle.codec_strands.proofs.bases.complement_bases.Goals as goal

pub loop-base-preserved : goal.loop-base-preserved
loop-base-preserved c =
    let old = c.args.bases.now in
    let i = c.loop-base.base-index in
    let kept : get_or c.loop-base.bases i 0 ≡ get_or old i 0 =
    rw c.loop-base.invariant (get_d-written_beyond _ old i 0 (omega (arith, length-map (take i old) complement, length-take i old))) in
    written-map_put complement old 0 old i (omega arith) (omega arith) c.loop-base.invariant (c.complement_base.ensures ∙ ap complement kept)
