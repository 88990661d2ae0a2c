use Rattle.std.proofs.Common.{◌≡◌, sym, length, arith}
use Rattle.codec_sides.specs.Side.{longest_of, reference_bases_of}
use Rattle.codec_sides.proofs.Most.{leads-map}
use Rattle.codec_sides.proofs.longest.longest_of.Goals as goal

pub returns-clause-value : goal.returns-clause-value
unfolding longest_of
returns-clause-value c =
    let side = c.args.side.now in
    let end : c.loop-k.k ≡ length side = omega arith in
    sym (leads-map (reference_bases_of c.args.ops.now c.args.starts.now c.args.counts.now) side c.loop-k.longest (rw end at c.loop-k.invariant.1))
