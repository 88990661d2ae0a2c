-- The lines in front of the reasons, the reasons, the lines behind them.
use Rattle.std.proofs.Common.{append_assoc, append-nil}
use Rattle.table_text.proofs.Pages.{appends_then}
use Rattle.handover_text.specs.Sheet.{counts_text, reasons_text, fates_text}
use Rattle.handover_text.proofs.sheet.write_fates.Goals as goal

pub returns-clause-appended : goal.returns-clause-appended
unfolding counts_text fates_text
returns-clause-appended c =
    let last = appends_then (reasons_text c.args.ledger.reasons) _ c.write_reason_counts.ensures.appended c.write_counts-2.ensures.appended in
    simp (append_assoc, append-nil) at (appends_then _ _ c.write_counts.ensures.appended last)
