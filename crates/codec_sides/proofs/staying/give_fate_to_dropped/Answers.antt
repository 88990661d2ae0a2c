use Rattle.std.proofs.Common.{◌≡◌, ◌∙◌, ◌<◌, ℕ, List, [], map, false, refl, sym, ap, arith, length, get_or, drop, drop_of_length-le, length-set}
use Rattle.std.specs.Prelude.{not, slice_set}
use Rattle.std.proofs.lemmas.List.{length-map, get_or-map}
use Rattle.caller.specs.Fates.{undecided_number, first_fate}
use Rattle.codec_records.specs.Side.{kept}
use Rattle.codec_records.proofs.Kept.{kept_yes, kept_no}
use Rattle.codec_sides.specs.Side.{given_fate}
use Rattle.codec_sides.proofs.Keeping.{given_fate-none, given_fate_more}
use Rattle.codec_sides.proofs.staying.give_fate_to_dropped.Goals as goal
use Rattle.codec_sides.proofs.staying.give_fate_to_dropped.Goals.{then-not-stays-k, else-not-stays-k}

pub loop-k-preserved : goal.loop-k-preserved
loop-k-preserved c =
    let side = c.args.side.now in
    let stays = c.args.stays.now in
    let k = c.loop-k.k in
    let own = get_or side k 0 in
    let h : k < length stays = omega (arith, c.requires.stays_len) in
    let g : k < length (map not stays) = rw (length-map stays not) h in
    let answer = get_or-map not stays k false false h in
    elim c.if-not-stays-k.branch [
      | then-not-stays-k w ↦
          let found = kept_yes side (map not stays) k (omega arith) g (answer ∙ ap not w.if-not-stays-k.true) in
          let stored = w.fates-is ∙ ap (slice_set c.loop-k.fates own) w.first_fate.ensures in (
            rw stored (sym (given_fate_more c.args.fate own _ c.loop-k.fates (omega (arith, c.requires.below k (omega arith)))) ∙ ap (λ (l : List ℕ). given_fate c.args.fate l c.loop-k.fates) (sym found) ∙ c.loop-k.invariant.0),
            rw stored (length-set c.loop-k.fates own (first_fate c.args.fate (get_or c.loop-k.fates own undecided_number)) ∙ c.loop-k.invariant.1),
          )
      | else-not-stays-k w ↦
          let passed = kept_no side (map not stays) k (omega arith) g (answer ∙ ap not w.if-not-stays-k.false) in
          (rw w.fates-is (ap (λ (l : List ℕ). given_fate c.args.fate l c.loop-k.fates) (sym passed) ∙ c.loop-k.invariant.0), rw w.fates-is c.loop-k.invariant.1)
    ]

pub returns : goal.returns
unfolding kept
returns c =
    let args = c.args in
    let none : kept (drop c.loop-k.k args.side.now) (drop c.loop-k.k (map not args.stays.now)) ≡ [] = rw (drop_of_length-le args.side.now {i = c.loop-k.k} (omega arith)) refl in
    sym (given_fate-none args.fate c.loop-k.fates) ∙ rw none at c.loop-k.invariant.0
