-- Eight words have at most 64 ones each.
use Rattle.std.proofs.Common.{◌≤◌, ◌^◌, length, length-take, take, arith, rules}
use Rattle.std.proofs.lemmas.Iterator.Adapters.{fits_from_length, at_most_from_yields_List}
use Rattle.std.proofs.lemmas.Iterator.{YieldsList-from_slice}
use Rattle.codec_rejects.proofs.rejects.count_marks.Goals as goal

pub sum-requires-clause-fits : goal.sum-requires-clause-fits
sum-requires-clause-fits c =
    let few : length (take 8 c.args.marks.now) ≤ 8 = omega (arith, length-take 8 c.args.marks.now) in
    fits_from_length _ _ 8 (2 ^ 64) (at_most_from_yields_List (YieldsList-from_slice (take 8 c.args.marks.now) cc) few) c.map.ensures.closure (omega arith) (λ x r q k. search rules)
