-- The ledgers, then the end of the text or a family.
use Rattle.std.proofs.Common.{◌≡◌, ◌≤◌, ◌<◌, ℕ, rules, length, arith, Ok, Err}
use Rattle.family_text.proofs.Advances.{family_advances}
use Rattle.family_text.proofs.Calls.{none_more, one_more}
use Rattle.family_text.specs.Family.{call, call_of}
use Rattle.family_text.specs.Shown.{family_in}
use Rattle.line_text.specs.Reading.{lines_from}
use Rattle.family_text.proofs.family.next_family.Goals as goal

less : {a b : ℕ} → a ≤ b → (a ≡ b → ⊥) → a < b
less h n = omega arith

pub returns-in_err-handed-clause-reads : goal.returns-in_err-handed-clause-reads
unfolding call_of
returns-in_err-handed-clause-reads c =
    let is : c.from_residual.result ≡ Err c.in_err-handed.field-0.0 = search rules in
    rw is (record { same = rw (← c.in_err-handed.ensures.same); within = c.in_err-handed.ensures.within })

pub returns-then-at-text-clause-reads : goal.returns-then-at-text-clause-reads
unfolding call_of
returns-then-at-text-clause-reads c =
    let past : length c.args.text.now ≤ c.in_ok-handed.at = omega (arith, c.if-at-text.true) in
    record { same = rw (← c.in_ok-handed.ensures.same, none_more _ _ _ past); within = c.in_ok-handed.ensures.within }

pub returns-in_err-family-clause-reads : goal.returns-in_err-family-clause-reads
unfolding call_of
returns-in_err-family-clause-reads c =
    let is : c.from_residual-in_err-family.result ≡ Err c.in_err-family.field-0.0 = search rules in
    let more = less c.in_ok-handed.ensures.within c.if-at-text.false in
    rw is (record { same = rw (← c.in_ok-handed.ensures.same, one_more _ _ _ more, ← c.in_err-family.ensures.same); within = c.in_err-family.ensures.within })

pub returns-clause-reads : goal.returns-clause-reads
unfolding call_of
returns-clause-reads c =
    let more = less c.in_ok-handed.ensures.within c.if-at-text.false in
    record { same = rw (← c.in_ok-handed.ensures.same, one_more _ _ _ more, ← c.in_ok-family.ensures.same); within = c.in_ok-family.ensures.within }

pub returns-clause-onward : goal.returns-clause-onward
unfolding call_of
returns-clause-onward c =
    let more = less c.in_ok-handed.ensures.within c.if-at-text.false in
    let found : Ok (call c.in_ok-handed.handed (family_in c.in_ok-family.family), lines_from c.args.text.now c.in_ok-family.after) ≡ call_of c.args.before (lines_from c.args.text.now c.args.start) =
    rw (← c.in_ok-handed.ensures.same, one_more _ _ _ more, ← c.in_ok-family.ensures.same) in
    family_advances _ _ _ _ _ _ found
