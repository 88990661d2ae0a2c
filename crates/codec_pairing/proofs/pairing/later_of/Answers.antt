use Rattle.std.proofs.Common.{◌≡◌, ◌∙◌, sym, true, get_or}
use Rattle.codec_pairing.specs.Pairing.{remains}
use Rattle.codec_pairing.proofs.Namesakes.{opens_not_aside, opens_not, first_of, opens_where_pair}
use Rattle.codec_pairing.proofs.pairing.later_of.Goals as goal
use Rattle.codec_pairing.proofs.pairing.later_of.Goals.{Else-not-is_remaining}

-- record i remains
stays : (c : Else-not-is_remaining) → remains (get_or c.args.family.now.flags.now c.args.i 0) ≡ true
stays c = sym c.is_remaining.ensures ∙ c.if-not-is_remaining.false

pub returns-then-not-is_remaining-clause-value : goal.returns-then-not-is_remaining-clause-value
returns-then-not-is_remaining-clause-value c = rw (opens_not_aside _ _ _ _ (sym c.is_remaining.ensures ∙ c.if-not-is_remaining.true))

pub returns-in-Some-clause-value : goal.returns-in-Some-clause-value
returns-in-Some-clause-value c = let found = c.in-Some.ensures in rw (opens_not _ _ _ _ _ found.before found.previous c.requires)

pub pair_of-requires-clause-first : goal.pair_of-requires-clause-first
pair_of-requires-clause-first c = first_of _ _ c.args.family.now.verdicts.now c.args.i c.requires (stays (goal.at.pair_of-requires-clause-first c).Else-not-is_remaining) c.in-None.ensures.none

pub returns-in-None-clause-value : goal.returns-in-None-clause-value
returns-in-None-clause-value c =
    let remaining = stays (goal.at.returns-in-None-clause-value c).Else-not-is_remaining in
    rw (opens_where_pair _ _ c.args.family.now.verdicts.now c.args.i remaining (first_of _ _ c.args.family.now.verdicts.now c.args.i c.requires remaining c.in-None.ensures.none)) c.pair_of.ensures.value
