use Rattle.std.proofs.Common.{◌∙◌, sym, false, get_or, arith}
use Rattle.std.proofs.Math.ListN.{get_or-map}
use Rattle.raw_bam.specs.Flags.{has_flag, reverse_flag}
use Rattle.lists.proofs.Map.{written-map_put}
use Rattle.codec_sides.specs.Side.{orientations}
use Rattle.codec_sides.proofs.gather.gather_reverse.Goals as goal

pub loop-k-preserved : goal.loop-k-preserved
loop-k-preserved c =
    let flags = c.args.flags.now in
    let k = c.loop-k.k in
    written-map_put (λ r. get_or (orientations flags) r false) c.args.side.now 0 c.args.out.now k (omega arith) (omega (arith, c.requires.side_in_bounds)) c.loop-k.invariant
    (c.is_reverse.ensures ∙ sym (get_or-map (λ bits. has_flag bits reverse_flag) flags (get_or c.args.side.now k 0) 0))
