use Rattle.sample_ledgers.specs.Samples.{ledger_at}
use Rattle.table_text.proofs.Appending.{Appending}
use Rattle.sheet_text.specs.SheetText.{sample_text}
use Rattle.sheet_text.proofs.sheet.write_samples.Given as goal

abbrev pub invariant-loop-sample : goal.invariant-loop-sample
invariant-loop-sample l = Appending (λ s. sample_text s (ledger_at l.samples s)) 118 l.initial.page l.page l.sample
