-- Each answer rewrites the rule by the tests before it; a record that has a namesake before it takes that one's fate.
use Rattle.std.proofs.Common.{◌≡◌, ◌∙◌, sym, true, get_or, rules}
use Rattle.codec_pairing.specs.Pairing.{remains, fate_of, is_entered}
use Rattle.codec_pairing.proofs.Namesakes.{first_of, same_fate}
use Rattle.codec_pairing.proofs.pairing.fate_of.Goals as goal
use Rattle.codec_pairing.proofs.pairing.fate_of.Goals.{Else-is_not_primary}

-- record i remains
stays : (c : Else-is_not_primary) → remains (get_or c.args.family.now.flags.now c.args.i 0) ≡ true
stays c = simp (sym c.is_paired.ensures ∙ c.if-not-is_paired.false, sym c.is_not_primary.ensures ∙ c.if-is_not_primary.false)

pub returns-then-not-is_paired : goal.returns-then-not-is_paired
unfolding fate_of
returns-then-not-is_paired c = simp (sym c.is_paired.ensures ∙ c.if-not-is_paired.true) c.from.ensures

pub returns-then-is_not_primary : goal.returns-then-is_not_primary
unfolding fate_of
returns-then-is_not_primary c = simp (sym c.is_paired.ensures ∙ c.if-not-is_paired.false, sym c.is_not_primary.ensures ∙ c.if-is_not_primary.true)

pub returns-in-Some : goal.returns-in-Some
returns-in-Some c =
    let found = c.in-Some.ensures in
    c.requires.by_index c.in-Some.earlier found.before ∙ same_fate _ _ _ c.args.i c.in-Some.earlier found.previous (stays (goal.at.returns-in-Some c).Else-is_not_primary)

pub pair_of-requires-clause-first : goal.pair_of-requires-clause-first
pair_of-requires-clause-first c = first_of _ _ c.args.family.now.verdicts.now c.args.i c.requires.i_in_bounds.0 (stays (goal.at.pair_of-requires-clause-first c).Else-is_not_primary) (search rules)

pub returns-then-is_some : goal.returns-then-is_some
unfolding fate_of is_entered
returns-then-is_some c = simp (sym c.is_paired.ensures ∙ c.if-not-is_paired.false, sym c.is_not_primary.ensures ∙ c.if-is_not_primary.false) (search rules)

pub returns-else-is_some : goal.returns-else-is_some
unfolding fate_of is_entered
returns-else-is_some c = simp (sym c.is_paired.ensures ∙ c.if-not-is_paired.false, sym c.is_not_primary.ensures ∙ c.if-is_not_primary.false) (search rules)
