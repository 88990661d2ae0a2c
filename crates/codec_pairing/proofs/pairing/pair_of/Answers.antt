-- Record i is the first of the name; the search gives the second, and the rest is asked for a third.
use Rattle.std.proofs.Common.{◌∙◌, sym, rules}
use Rattle.codec_pairing.specs.Pairing.{later_of}
use Rattle.codec_pairing.proofs.Namesakes.{alone, third_found, none_found}
use Rattle.codec_pairing.proofs.pairing.pair_of.Goals as goal

pub returns-in_err-later-clause-value : goal.returns-in_err-later-clause-value
returns-in_err-later-clause-value c = rw (c.requires.first, c.in_err-later.ensures.none, alone) (search rules)

pub returns-then-has_namesake-clause-value : goal.returns-then-has_namesake-clause-value
returns-then-has_namesake-clause-value c =
    rw (c.requires.first, c.in_ok-later.ensures.next, third_found _ _ _ _ (sym c.has_namesake.ensures ∙ c.if-has_namesake.true))

pub returns-clause-value : goal.returns-clause-value
unfolding later_of
returns-clause-value c =
    rw (c.requires.first, c.in_ok-later.ensures.next, none_found _ _ _ _ _ _ (sym c.has_namesake.ensures ∙ c.if-has_namesake.false)) (search rules)
