-- Writing the numbers left behind those that are written gives what writing all of them gives.
use Rattle.std.proofs.Common.{◌+◌, [], ◌∷◌, ◌++◌, length, drop, slice_index_or, ap, arith}
use Rattle.std.proofs.Math.ListN.{length-append}
use Rattle.table_text.specs.OutputTable.{number_text}
use Rattle.table_text.proofs.Pages.{appends_none, appends_then}
use Rattle.sheet_text.specs.SheetText.{numbers_text}
use Rattle.sheet_text.proofs.Lines.{no_numbers, number_at, number_last}
use Rattle.sheet_text.proofs.line.write_numbers.Goals as goal

pub returns-in_default : goal.returns-in_default
returns-in_default c = rw (no_numbers c.args.numbers.now c.in_default.ensures.cases) (appends_none c.args.page.now)

pub loop-n-init : goal.loop-n-init
loop-n-init c =
    let whole = ap numbers_text c.in-Some.ensures.cases.0 in
    record { room = omega (arith, c.requires, ap length whole); completes = λ page all. rw whole all }

pub write_number-requires : goal.write_number-requires
write_number-requires c =
    omega (arith, c.loop-n.invariant.room, simp length-append at (ap length (number_at c.in-Some.others.now c.in-Some.field-0-0.now c.loop-n.n-index c.loop-n-test.true)))

pub loop-n-preserved : goal.loop-n-preserved
loop-n-preserved c =
    let others = c.in-Some.others.now in
    let last = c.in-Some.field-0-0.now in
    let i = c.loop-n.n-index in
    let next = number_at others last i c.loop-n-test.true in
    record {
      room = omega (arith, c.loop-n.invariant.room, simp length-append at (ap length next));
      completes = λ page more. c.loop-n.invariant.completes page (rw next (appends_then (number_text (slice_index_or others i 0) 32) (numbers_text (drop (i + 1) others ++ (last ∷ []))) c.write_number.ensures more));
    }

pub write_number-requires-2 : goal.write_number-requires-2
write_number-requires-2 c =
    omega (arith, c.loop-n.invariant.room, ap length (number_last c.in-Some.others.now c.in-Some.field-0-0.now c.loop-n.n-index c.loop-n-test.false))

pub returns : goal.returns
returns c = c.loop-n.invariant.completes _ (rw (number_last c.in-Some.others.now c.in-Some.field-0-0.now c.loop-n.n-index c.loop-n-test.false) c.write_number-2.ensures)
