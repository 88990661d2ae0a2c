use Rattle.std.proofs.Common.{sym, refl, arith, ◌∙◌}
use Rattle.codec_pairing.specs.Family.{reads}
use Rattle.codec_pairing.proofs.Refusing.{lowest_from-0, found_bad, passed_good, passed_decided, none-left}
use Rattle.codec_pairing.proofs.refusal.lowest_bad.Goals as goal
use Rattle.codec_pairing.proofs.refusal.lowest_bad.Goals.{else-fates-i-eq-UNDECIDED-via-then-fates-i-eq-UNDECIDED+else-is_bad, else-fates-i-eq-UNDECIDED-via-else-fates-i-eq-UNDECIDED}

pub loop-i-init : goal.loop-i-init
loop-i-init g c = λ bad tests. lowest_from-0 bad (reads c.args.fates.now c.args.family.now)

pub returns-then-is_bad : goal.returns-then-is_bad
returns-then-is_bad g c =
    λ bad tests.
    sym (found_bad bad (reads c.args.fates.now c.args.family.now) c.loop-i.i (c.loop-i.invariant bad tests) c.args.fates.now refl (omega arith) (omega (arith, c.args.family.now.alike.as_many_clipped)) c.if-fates-i-eq-UNDECIDED.true (sym (tests _ _ c.is_bad.ensures) ∙ c.if-is_bad.true))

pub loop-i-preserved : goal.loop-i-preserved
loop-i-preserved g c =
    λ bad tests.
    let f = reads c.args.fates.now c.args.family.now in
    elim c.else-fates-i-eq-UNDECIDED.branch [
      | else-fates-i-eq-UNDECIDED-via-then-fates-i-eq-UNDECIDED+else-is_bad w ↦
          passed_good bad f c.loop-i.i (c.loop-i.invariant bad tests) c.args.fates.now refl (omega arith) (omega (arith, c.args.family.now.alike.as_many_clipped)) w.if-fates-i-eq-UNDECIDED.true (sym (tests _ _ w.is_bad.ensures) ∙ w.if-is_bad.false)
      | else-fates-i-eq-UNDECIDED-via-else-fates-i-eq-UNDECIDED w ↦
          passed_decided bad f c.loop-i.i (c.loop-i.invariant bad tests) c.args.fates.now refl (omega arith) (omega (arith, c.args.family.now.alike.as_many_clipped)) w.if-fates-i-eq-UNDECIDED.false
    ]

pub returns : goal.returns
returns g c = λ bad tests. sym (none-left bad (reads c.args.fates.now c.args.family.now) c.loop-i.i (c.loop-i.invariant bad tests) (omega (arith, c.args.family.now.alike.as_many_clipped)))
