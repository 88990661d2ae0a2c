-- Document 02, Req 01: the sheet's answer as numbers.
use Rattle.std.specs.Prelude.{ℕ, Result, Ok, Err}
use Rattle.sheet_text.specs.declared.refusal.SheetRefusal.{SheetRefusal}
use Rattle.sheet_text.specs.declared.refusal.SheetRefusal.TheVariants.{LedgerTooLarge, BufferTooSmall}
use Rattle.sheet_text.specs.declared.report.SheetAnswer.{SheetAnswer}

-- 10: a ledger's figures are too large; 21: 'text buffer under 16,384 bytes'
abbrev pub refusal_number : SheetRefusal → ℕ
refusal_number LedgerTooLarge = 10
refusal_number BufferTooSmall = 21

-- number 0: the text's length; any other: a refusal's number, with 0
abbrev pub reported_sheet : Result ℕ SheetRefusal → SheetAnswer
reported_sheet (Ok size) = record { number = 0; length = size }
reported_sheet (Err refusal) = record { number = refusal_number refusal; length = 0 }
