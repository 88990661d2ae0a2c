use Rattle.std.proofs.Common.{◌≡◌, ◌+◌, ◌≤◌, length, drop}
use Rattle.std.specs.List.{sum_by}
use Rattle.table_text.specs.Page.{Appends}
use Rattle.table_text.specs.declared.page.Page.{Page}
use Rattle.handover_text.specs.Sheet.{counts_text}
use Rattle.handover_text.proofs.sheet.write_counts.Given as goal

abbrev pub invariant-loop-label : goal.invariant-loop-label
invariant-loop-label l =
    let left = drop l.label-index l.lines in
    record {
      size : length l.page.bytes.now ≡ length l.initial.page.bytes.now;
      within : l.page.end + sum_by (λ line. length line.0.now + 22) left ≤ l.initial.page.end + sum_by (λ line. length line.0.now + 22) l.lines;
      completes : (page : Page) → Appends (counts_text left) l.page page → Appends (counts_text l.lines) l.initial.page page;
    }
