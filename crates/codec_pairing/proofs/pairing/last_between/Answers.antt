use Rattle.std.proofs.Common.{◌≡◌, ◌+◌, ◌-◌, ◌∙◌, sym, arith}
use Rattle.codec_pairing.proofs.Namesakes.{passed_here}
use Rattle.codec_pairing.proofs.pairing.last_between.Goals as goal

pub returns-then-not-some_between-clause-none : goal.returns-then-not-some_between-clause-none
returns-then-not-some_between-clause-none c = c.some_between.ensures c.if-not-some_between.true

pub loop-i-preserved : goal.loop-i-preserved
loop-i-preserved c =
    let next : c.loop-i.i - 1 + 1 ≡ c.loop-i.i = omega arith in
    record {
      order = omega arith;
      passed = rw next at (passed_here _ _ _ (c.loop-i.i - 1) (omega arith) (sym c.is_namesake-in-loop-i.ensures ∙ c.if-is_namesake-2.false)) ∙ c.loop-i.invariant.passed;
    }

pub returns-clause-none : goal.returns-clause-none
returns-clause-none c = let end : c.loop-i.i ≡ c.args.from = omega arith in rw end at c.loop-i.invariant.passed
