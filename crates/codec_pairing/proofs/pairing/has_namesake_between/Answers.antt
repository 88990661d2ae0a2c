use Rattle.std.proofs.Common.{◌≡◌, ◌+◌, ◌∙◌, Bool, true, false, refl, sym, arith}
use mathlib.Core.Bool.{◌||◌}
use Rattle.codec_pairing.specs.Pairing.{is_namesake}
use Rattle.codec_pairing.specs.Search.{has_namesake_between}
use Rattle.codec_pairing.proofs.Namesakes.{asked_more, asked-all}
use Rattle.codec_pairing.proofs.pairing.has_namesake_between.Goals as goal

one_more : (any one rest : Bool) → any || (one || rest) ≡ (any || one) || rest
one_more true one rest = refl
one_more false one rest = refl

none_left : (any : Bool) → any || false ≡ any
none_left true = refl
none_left false = refl

pub loop-k-preserved : goal.loop-k-preserved
unfolding is_namesake
loop-k-preserved c =
    let f = c.args.family.now in
    let name = c.args.name in
    let k = c.loop-k.k in
    c.loop-k.invariant
    ∙ rw (asked_more f.flags.now f.names.now name c.args.from c.args.to k (omega arith), c.is_remaining.ensures)
    (one_more c.loop-k.any (is_namesake f.flags.now f.names.now name k) (has_namesake_between f.flags.now f.names.now name (k + 1) c.args.to))

pub returns : goal.returns
returns c =
    let f = c.args.family.now in
    sym (c.loop-k.invariant ∙ rw (asked-all f.flags.now f.names.now c.args.name c.args.from c.args.to c.loop-k.k (omega arith)) (none_left c.loop-k.any))
