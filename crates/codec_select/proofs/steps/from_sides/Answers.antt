-- The sides stay sides of admissible records.
use Rattle.std.proofs.Common.{◌≡◌, ◌∙◌, sym, ap, refl, length, arith, eq-eqb, ne_eqb, lt-ltb, le-ltb}
use Rattle.codec_pairing.specs.Family.{side_r1, side_r2}
use Rattle.codec_select.specs.Alignments.{alignments_in, Formed}
use Rattle.codec_select.specs.Steps.{is_in_group, from_sides}
use Rattle.codec_select.proofs.Formed.{side_r1_formed, side_r2_formed, grouped_formed, formed-below}
use Rattle.codec_sides.proofs.Keeping.{length-given_fate}
use Rattle.codec_select.proofs.steps.from_sides.Goals as goal
use Rattle.codec_select.proofs.steps.from_sides.Goals.{After-len-pairs}

pairs_are : (c : After-len-pairs) → c.len-pairs.result ≡ length (side_r1 c.args.family.now)
pairs_are c = c.len-pairs.ensures ∙ ap length c.write_sides.ensures.r1

-- where there is a pair
module _ (c : After-len-pairs) (some : c.len-pairs.result ≡ 0 → ⊥) where
  r1-formed : let f = c.args.family.now in Formed (alignments_in f) (side_r1 f)
  r1-formed = let f = c.args.family.now in side_r1_formed (alignments_in f) f.names.now f.verdicts.now c.requires.entered_admissible f.alike.few (omega (arith, pairs_are c, some))

  r2-formed : let f = c.args.family.now in Formed (alignments_in f) (side_r2 f)
  r2-formed = let f = c.args.family.now in side_r2_formed (alignments_in f) f.names.now f.verdicts.now c.requires.entered_admissible f.alike.few (omega (arith, pairs_are c, some))

pub returns-then-pairs-eq0 : goal.returns-then-pairs-eq0
unfolding from_sides
returns-then-pairs-eq0 c =
    rw (eq-eqb _ _ (sym (pairs_are (goal.at.returns-then-pairs-eq0 c).After-len-pairs) ∙ c.if-pairs-eq0.true))
    (record { decision_is = c.conclude.ensures.value; fates_are = refl; r1_is = c.conclude.ensures.r1; r2_is = c.conclude.ensures.r2 })

pub returns-then-pairs-options : goal.returns-then-pairs-options
unfolding from_sides
returns-then-pairs-options c =
    let count = pairs_are (goal.at.returns-then-pairs-options c).After-len-pairs in
    rw (ne_eqb _ _ (rw count at c.if-pairs-eq0.false), lt-ltb _ _ (rw count at c.if-pairs-options.true))
    (record { decision_is = c.conclude-then-pairs-options.ensures.value; fates_are = refl; r1_is = c.conclude-then-pairs-options.ensures.r1; r2_is = c.conclude-then-pairs-options.ensures.r2 })

pub keep_group-requires-clause-have_operations : goal.keep_group-requires-clause-have_operations
keep_group-requires-clause-have_operations c =
    let formed = r1-formed (goal.at.keep_group-requires-clause-have_operations c).After-len-pairs c.if-pairs-eq0.false in
    rw c.write_sides.ensures.r1 (λ k h. (formed.admissible k h).has_operations)

pub keep_group-requires-clause-below : goal.keep_group-requires-clause-below
keep_group-requires-clause-below c =
    let formed = r1-formed (goal.at.keep_group-requires-clause-below c).After-len-pairs c.if-pairs-eq0.false in
    rw c.write_sides.ensures.r1 (formed-below (alignments_in c.args.family.now) formed _ refl)

pub keep_group-requires-2-clause-have_operations : goal.keep_group-requires-2-clause-have_operations
keep_group-requires-2-clause-have_operations c =
    let formed = r2-formed (goal.at.keep_group-requires-2-clause-have_operations c).After-len-pairs c.if-pairs-eq0.false in
    rw c.write_sides.ensures.r2 (λ k h. (formed.admissible k h).has_operations)

pub keep_group-requires-2-clause-below : goal.keep_group-requires-2-clause-below
keep_group-requires-2-clause-below c =
    let formed = r2-formed (goal.at.keep_group-requires-2-clause-below c).After-len-pairs c.if-pairs-eq0.false in
    rw c.write_sides.ensures.r2 (formed-below (alignments_in c.args.family.now) formed _ refl)

pub keep_group-requires-clause-below_2 : goal.keep_group-requires-clause-below_2
keep_group-requires-clause-below_2 c =
    let formed = r1-formed (goal.at.keep_group-requires-clause-below_2 c).After-len-pairs c.if-pairs-eq0.false in
    rw c.write_sides.ensures.r1 (formed-below (alignments_in c.args.family.now) formed _ c.requires.fates_len)

pub keep_group-requires-2-clause-below_2 : goal.keep_group-requires-2-clause-below_2
keep_group-requires-2-clause-below_2 c =
    let formed = r2-formed (goal.at.keep_group-requires-2-clause-below_2 c).After-len-pairs c.if-pairs-eq0.false in
    rw c.write_sides.ensures.r2 (formed-below (alignments_in c.args.family.now) formed _ (ap length c.keep_group.ensures.fates_after ∙ length-given_fate _ _ _ ∙ c.requires.fates_len))

pub from_cap-requires-clause-formed : goal.from_cap-requires-clause-formed
unfolding is_in_group
from_cap-requires-clause-formed c =
    let formed = r1-formed (goal.at.from_cap-requires-clause-formed c).After-len-pairs c.if-pairs-eq0.false in
    rw (c.keep_group.ensures.side_after, c.write_sides.ensures.r1) (grouped_formed (alignments_in c.args.family.now) _ formed)

pub from_cap-requires-clause-formed_2 : goal.from_cap-requires-clause-formed_2
unfolding is_in_group
from_cap-requires-clause-formed_2 c =
    let formed = r2-formed (goal.at.from_cap-requires-clause-formed_2 c).After-len-pairs c.if-pairs-eq0.false in
    rw (c.keep_group-2.ensures.side_after, c.write_sides.ensures.r2) (grouped_formed (alignments_in c.args.family.now) _ formed)

pub returns : goal.returns
unfolding from_sides is_in_group
returns c =
    let count = pairs_are (goal.at.returns c).After-len-pairs in
    let fates = c.keep_group-2.ensures.fates_after in
    rw (ne_eqb _ _ (rw count at c.if-pairs-eq0.false), le-ltb _ _ (rw count at c.if-pairs-options.false))
    (rw (c.keep_group.ensures.side_after, c.keep_group-2.ensures.side_after, c.keep_group-2.ensures.fates_after, c.keep_group.ensures.fates_after, c.write_sides.ensures.r1, c.write_sides.ensures.r2) at c.from_cap.ensures)
