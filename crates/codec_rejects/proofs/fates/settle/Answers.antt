-- A turn settles one fate more.
use Rattle.std.proofs.Common.{◌≡◌, ◌∙◌, ◌≤◌, length, get_or, map, take, length-take, ap, arith}
use Rattle.std.proofs.lemmas.List.{length-map}
use Rattle.std.proofs.Math.Seq.{take_all}
use Rattle.lists.proofs.Map.{written-map_put}
use Rattle.lists.proofs.Written.{written-whole, get_d-written_beyond}
use Rattle.caller.specs.Fates.{first_fate}
use Rattle.codec_rejects.specs.Fates.{settled}
use Rattle.codec_rejects.proofs.fates.settle.Goals as goal

pub loop-own-preserved : goal.loop-own-preserved
loop-own-preserved c =
    let falls = first_fate c.args.fate in
    let old = c.args.fates.now in
    let i = c.loop-own.own-index in
    let passed : length (map falls (take i old)) ≤ i = simp (length-map, length-take) (omega arith) in
    let read : get_or c.loop-own.fates i 0 ≡ get_or old i 0 = rw c.loop-own.invariant (get_d-written_beyond (map falls (take i old)) old i 0 passed) in
    written-map_put falls old 0 old i (omega arith) (omega arith) c.loop-own.invariant (c.first_fate.ensures ∙ ap falls read)

pub returns : goal.returns
unfolding settled
returns c =
    let old = c.args.fates.now in
    let all : take c.loop-own.own-index old ≡ old = take_all c.loop-own.own-index old (omega arith) in
    (rw all at c.loop-own.invariant) ∙ written-whole (map (first_fate c.args.fate) old) old (length-map old (first_fate c.args.fate))
