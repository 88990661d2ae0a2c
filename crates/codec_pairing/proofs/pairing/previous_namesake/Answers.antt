use Rattle.std.proofs.Common.{◌≡◌, ◌∙◌, sym, arith}
use Rattle.codec_pairing.proofs.Namesakes.{none_before}
use Rattle.codec_pairing.proofs.pairing.previous_namesake.Goals as goal

pub returns-then-not-has_name-clause-none : goal.returns-then-not-has_name-clause-none
returns-then-not-has_name-clause-none c = none_before _ _ _ c.args.i (omega arith) c.args.family.now.alike.as_many_names (sym c.has_name.ensures ∙ c.if-not-has_name.true)

pub returns-clause-none : goal.returns-clause-none
returns-clause-none c = let first : c.loop-end.end ≡ 0 = omega arith in rw first at c.loop-end.invariant.passed
