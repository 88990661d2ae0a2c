-- By the tests: no field is left, a field that is no such number, one more number, no room for a field.
use Rattle.std.proofs.Common.{◌<◌, ◌≤◌, refl, sym, length, length-set, arith}
use Rattle.std.proofs.Math.Nat.{sub-zero}
use Rattle.table_text.proofs.FieldLists.{number_field_le}
use Rattle.line_text.proofs.Columns.{after_none, goes_on, stops, ends, decided}
use Rattle.line_text.proofs.numbers.read_column.Goals as goal

pub loop-n-init : goal.loop-n-init
loop-n-init g c = (refl, rw sub-zero (sym (after_none _)))

pub returns-then-line-at-clause-numbers : goal.returns-then-line-at-clause-numbers
returns-then-line-at-clause-numbers g c =
    let inv = c.loop-n.invariant in
    rw (← inv.0) (ends _ _ _ _ _ _ _ inv.1 c.if-line-at.true)

pub returns-in_err-number-clause-numbers : goal.returns-in_err-number-clause-numbers
returns-in_err-number-clause-numbers g c =
    let inv = c.loop-n.invariant in
    rw (c.from_residual.ensures, ← inv.0) (stops _ _ _ _ _ _ _ inv.1 c.if-line-at.false (rw c.GREATEST.ensures at c.in_err-number.ensures))

pub of-requires : goal.of-requires
of-requires g c = number_field_le _ _ _ _ (sym (rw c.GREATEST.ensures at c.in_ok-number.ensures))

pub loop-n-preserved : goal.loop-n-preserved
loop-n-preserved g c =
    let inv = c.loop-n.invariant in
    let here : c.loop-n.n < length c.loop-n.column = omega arith in
    (simp length-set inv.0, simp length-set (goes_on _ _ _ _ _ _ _ inv.1 _ _ _ here c.of.ensures (rw c.GREATEST.ensures at c.in_ok-number.ensures)))

pub returns-clause-numbers : goal.returns-clause-numbers
returns-clause-numbers g c =
    let inv = c.loop-n.invariant in
    let past : length c.loop-n.column ≤ c.loop-n.n = omega arith in
    rw (c.then_some.ensures, ← inv.0) (decided _ _ _ _ _ _ _ inv.1 past)
