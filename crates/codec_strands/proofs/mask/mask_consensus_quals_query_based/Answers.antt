-- The qualities before place i are masked; the next is still as it was.
use Rattle.std.proofs.Common.{◌≡◌, refl, sym, ◌∙◌, ap, get_or, length, take, arith}
use Rattle.std.proofs.lemmas.List.{get_or-take, length-take-le}
use Rattle.lists.specs.Tabulate.{tabulate}
use Rattle.lists.proofs.Tabulate.{tabulate_put, tabulate-next}
use Rattle.codec_strands.specs.Masks.{outer_mask, single_strand_mask, masked_at, masked}
use Rattle.codec_strands.proofs.mask.mask_consensus_quals_query_based.Goals as goal

pub loop-i-init : goal.loop-i-init
unfolding tabulate
loop-i-init c = refl

pub loop-i-preserved : goal.loop-i-preserved
unfolding masked_at
loop-i-preserved c =
    let masks = c.args.masks in
    let old = c.args.quals.now in
    let n = length c.args.a.now in
    let i = c.loop-i.i in
    let rule = masked_at masks c.args.a.now c.args.b.now (take n old) n in
    let kept = tabulate-next rule old i 0 c.loop-i.invariant ∙ sym (get_or-take n old i 0 (omega arith)) in
    let outer = c.outer_mask-outer.ensures ∙ ap (outer_mask masks n i) kept in
    let value = c.single_strand_mask.ensures ∙ ap (single_strand_mask masks (get_or c.args.a.now i 0) (get_or c.args.b.now i 0)) outer in
    tabulate_put rule old i (omega arith) c.loop-i.invariant value

pub returns : goal.returns
unfolding masked
returns c =
    let end : c.loop-i.i ≡ length c.args.a.now = omega arith in
    rw (length-take-le (length c.args.a.now) c.args.quals.now c.requires.room) (rw end at c.loop-i.invariant)
