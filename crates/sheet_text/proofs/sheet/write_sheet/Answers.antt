-- By the refusal.
use Rattle.std.proofs.Common.{◌≡◌, rules, Ok, Err, length, sym, ap, arith}
use Rattle.sheet_text.specs.Sheet.{sheet_answer, sheet_buffer}
use Rattle.sheet_text.proofs.Accepted.{accepted}
use Rattle.sheet_text.proofs.sheet.write_sheet.Goals as goal

pub returns-in_err-refuse_sheet-clause-value : goal.returns-in_err-refuse_sheet-clause-value
unfolding sheet_answer
returns-in_err-refuse_sheet-clause-value c =
    let is : c.from_residual.result ≡ Err c.in_err-refuse_sheet.field-0.0 = search rules in
    rw (is, ← c.in_err-refuse_sheet.ensures)

pub returns-in_err-refuse_sheet-clause-output_after : goal.returns-in_err-refuse_sheet-clause-output_after
unfolding sheet_buffer
returns-in_err-refuse_sheet-clause-output_after c = rw (← c.in_err-refuse_sheet.ensures)

pub write_text-requires : goal.write_text-requires
write_text-requires c =
    let met = accepted c.args.samples.now (length c.args.output.now) (sym c.in_ok-refuse_sheet.ensures) in
    record { within_limits = met.0; room = omega (arith, met.1) }

pub returns-clause-value : goal.returns-clause-value
unfolding sheet_answer
returns-clause-value c = rw (← c.in_ok-refuse_sheet.ensures) (ap Ok c.write_text.ensures.value)

pub returns-clause-output_after : goal.returns-clause-output_after
unfolding sheet_buffer
returns-clause-output_after c = rw (← c.in_ok-refuse_sheet.ensures) c.write_text.ensures.output_after
