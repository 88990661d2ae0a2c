-- The first i places are copied, from the last on; a turn copies one more.
use Rattle.std.proofs.Common.{◌≡◌, ℕ, ◌-◌, sym, ◌∙◌, ap, map, reverse, length, get_or, arith}
use Rattle.std.proofs.lemmas.List.{length-map, length-reverse, get_or-map, get_or-reverse}
use Rattle.codec_strands.specs.Strands.{complement}
use Rattle.codec_strands.proofs.Orientation.{copied_more, copied_all}
use Rattle.codec_strands.proofs.bases.copy_bases.Goals as goal

pub loop-i-preserved : goal.loop-i-preserved
loop-i-preserved c =
    let bases = c.args.bases.now in
    let i = c.loop-i.i in
    let value = c.complement_base.result in
    let long = length-map bases complement in
    let size = length-reverse (map complement bases) ∙ long in
    let from_end : get_or (reverse (map complement bases)) i value ≡ get_or (map complement bases) (length bases - 1 - i) value =
    get_or-reverse (map complement bases) i value (omega (arith, long)) ∙ ap (λ (k : ℕ). get_or (map complement bases) (k - 1 - i) value) long in
    let there : value ≡ get_or (map complement bases) (length bases - 1 - i) value = c.complement_base.ensures ∙ sym (get_or-map complement bases (length bases - 1 - i) 0 value (omega arith)) in
    copied_more (reverse (map complement bases)) c.args.places.now i (omega (arith, size)) (omega (arith, size)) c.loop-i.invariant (there ∙ sym from_end)

pub returns : goal.returns
returns c =
    let bases = c.args.bases.now in
    let size = length-reverse (map complement bases) ∙ length-map bases complement in
    rw c.if-not-reversed.false (copied_all (reverse (map complement bases)) c.args.places.now c.loop-i.i (omega (arith, size)) (omega (arith, size)) c.loop-i.invariant)
