use Rattle.std.proofs.Common.{◌∙◌, refl, arith}
use Rattle.std.proofs.Math.ListN.{get_or-append}
use Rattle.lists.specs.Tabulate.{tabulate}
use Rattle.lists.proofs.Tabulate.{length-tabulate, tabulate_more, get_d_tabulate}
use Rattle.codec_pairing.specs.Family.{fate_of}
use Rattle.codec_pairing.proofs.pairing.write_fates.Goals as goal

pub loop-i-init : goal.loop-i-init
unfolding tabulate
loop-i-init c = refl

pub fate_of-fate-requires-clause-by_index : goal.fate_of-fate-requires-clause-by_index
fate_of-fate-requires-clause-by_index c =
    let fate = fate_of c.args.family.now in
    λ k h.
    rw c.loop-i.invariant (get_or-append (tabulate fate c.loop-i.i) _ 0 k (omega (arith, length-tabulate fate c.loop-i.i)) ∙ get_d_tabulate fate c.loop-i.i k 0 h)

pub loop-i-preserved : goal.loop-i-preserved
loop-i-preserved c = rw (c.fate_of-fate.ensures, c.loop-i.invariant) (tabulate_more (fate_of c.args.family.now) c.args.fates.now c.loop-i.i (omega arith))
