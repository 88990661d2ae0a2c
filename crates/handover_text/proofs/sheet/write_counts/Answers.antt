-- Writing the lines left behind those that are written gives what writing all of them gives.
use Rattle.std.proofs.Common.{[], ◌∷◌, ◌+◌, length, drop, get_or, ap, arith}
use Rattle.table_text.proofs.Pages.{appends_none, appends_then}
use Rattle.answer_text.specs.Line.{line_text}
use Rattle.handover_text.specs.Sheet.{counts_text}
use Rattle.handover_text.proofs.Counts.{none, counts_next, widths_next, counts_ended}
use Rattle.handover_text.proofs.sheet.write_counts.Goals as goal

pub write_line-requires : goal.write_line-requires
write_line-requires c =
    omega (arith, c.loop-label.invariant.within, widths_next c.args.lines.now c.loop-label.label-index c.loop-label-test.true, ap length c.as_bytes.ensures.value)

pub loop-label-preserved : goal.loop-label-preserved
loop-label-preserved c =
    let lines = c.args.lines.now in
    let i = c.loop-label.label-index in
    let text = line_text (get_or lines i none).0.now ((get_or lines i none).1 ∷ []) in
    let line = rw c.as_bytes.ensures.value at c.write_line.ensures.appended in
    record {
      size = omega arith;
      within = omega (arith, c.loop-label.invariant.within, widths_next lines i c.loop-label-test.true, ap length c.as_bytes.ensures.value);
      completes = λ page more. c.loop-label.invariant.completes page (rw (counts_next lines i c.loop-label-test.true) (appends_then text (counts_text (drop (i + 1) lines)) line more));
    }

pub returns-clause-appended : goal.returns-clause-appended
returns-clause-appended c =
    c.loop-label.invariant.completes c.loop-label.page (rw (counts_ended c.args.lines.now c.loop-label.label-index c.loop-label-test.false) (appends_none c.loop-label.page))
