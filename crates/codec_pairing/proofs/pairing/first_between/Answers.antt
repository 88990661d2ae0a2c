-- No record of the name that remains stands between the first looked at and record i.
use Rattle.std.proofs.Common.{◌≡◌, ◌∙◌, sym, arith}
use Rattle.codec_pairing.proofs.Namesakes.{found_here, passed_here}
use Rattle.codec_pairing.proofs.pairing.first_between.Goals as goal

pub returns-then-not-some_between-clause-none : goal.returns-then-not-some_between-clause-none
returns-then-not-some_between-clause-none c = c.some_between.ensures c.if-not-some_between.true

pub returns-then-is_namesake-clause-next : goal.returns-then-is_namesake-clause-next
returns-then-is_namesake-clause-next c = found_here _ _ _ _ (omega arith) (sym c.is_namesake.ensures ∙ c.if-is_namesake.true)

pub returns-then-is_namesake-2-clause-next : goal.returns-then-is_namesake-2-clause-next
returns-then-is_namesake-2-clause-next c = c.loop-i.invariant ∙ found_here _ _ _ _ (omega arith) (sym c.is_namesake-in-loop-i.ensures ∙ c.if-is_namesake-2.true)

pub loop-i-preserved : goal.loop-i-preserved
loop-i-preserved c = c.loop-i.invariant ∙ passed_here _ _ _ _ (omega arith) (sym c.is_namesake-in-loop-i.ensures ∙ c.if-is_namesake-2.false)

pub returns-clause-none : goal.returns-clause-none
returns-clause-none c = let end : c.loop-i.i ≡ c.args.to = omega arith in rw end at c.loop-i.invariant
