-- A turn counts one record more.
use Rattle.std.proofs.Common.{◌≡◌, ◌<◌, List, ℕ, length, get_or, take, length-take, arith}
use Rattle.codec_rejects.specs.Fates.{AreFates, with_fate}
use Rattle.codec_rejects.proofs.Counting.{with_fate_few, counts_at, counts_more}
use Rattle.codec_rejects.proofs.fates.count_fates.Goals as goal

-- the fate that is read has a counter
known : (fates : List ℕ) → AreFates fates → (i : ℕ) → i < length fates → get_or fates i 0 < 14
known fates fate i h = omega (arith, fate i h)

pub overflow_add-counts : goal.overflow_add-counts
overflow_add-counts c =
    let fates = c.args.fates.now in
    let i = c.loop-fate.fate-index in
    let own = get_or fates i 0 in
    let here : get_or c.loop-fate.counts own 0 ≡ with_fate own (take i fates) = rw c.loop-fate.invariant (counts_at (take i fates) own (known fates c.requires i (omega arith))) in
    omega (arith, here, with_fate_few own (take i fates), length-take i fates)

pub loop-fate-preserved : goal.loop-fate-preserved
loop-fate-preserved c =
    let fates = c.args.fates.now in
    let i = c.loop-fate.fate-index in
    counts_more fates i (omega arith) (known fates c.requires i (omega arith)) c.loop-fate.invariant
