-- A family goes on from the place reached, and a window stops where its text does.
use Rattle.std.proofs.Common.{rules, ◌≡◌, Err, refl, sym, ◌∙◌, arith}
use Rattle.family_windows.specs.Going.{here, figures}
use Rattle.family_windows.proofs.Going.{goes_on}
use Rattle.family_windows.proofs.Stops.{begins, stopped}
use Rattle.family_windows.proofs.passes.answer_window.Goals as goal

pub loop-at-init : goal.loop-at-init
loop-at-init g c = record { within = omega arith; kept = record { same_loan = refl; size = refl }; goes = here }

pub loop-at-preserved : goal.loop-at-preserved
loop-at-preserved g c =
    record {
      within = c.in-Ok.ensures.onward.1;
      kept = record { same_loan = c.answer_next.ensures.kept.same_loan ∙ c.loop-at.invariant.kept.same_loan; size = c.answer_next.ensures.kept.size ∙ c.loop-at.invariant.kept.size };
      goes = goes_on c.loop-at.invariant.goes c.in-Ok.ensures.goes;
    }

pub returns-in_err-handed-in-Err-clause-within : goal.returns-in_err-handed-in-Err-clause-within
returns-in_err-handed-in-Err-clause-within g c =
    let malformed = c.in_err-handed-in-Err.field-0.0 in
    let is : c.from_residual.result ≡ Err malformed = search rules in
    rw (is, stopped _ _ _ malformed c.in_err-handed-in-Err.ensures) c.in-Err.ensures.within

pub returns-in-Err-clause-onward : goal.returns-in-Err-clause-onward
returns-in-Err-clause-onward g c =
    let begun = begins _ _ _ _ _ c.in_ok-handed-in-Err.ensures in
    (begun.1, rw begun.0 at c.read_ledgers-begun.ensures.within)

pub returns-in-Err-clause-goes : goal.returns-in-Err-clause-goes
returns-in-Err-clause-goes g c =
    let begun = begins _ _ _ _ _ c.in_ok-handed-in-Err.ensures in
    let held = rw c.in-Err.ensures.unchanged at c.read_ledgers-begun.ensures.same in
    figures c.loop-at.invariant.goes (sym (rw begun.0 at held))
