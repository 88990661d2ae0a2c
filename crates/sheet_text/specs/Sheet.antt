-- Document 02, Req 01: what the sheet answers and leaves in the lent buffer, 'the rest of the buffer is untouched'.
use Rattle.std.specs.Prelude.{Bool, not, cond, List, ℕ, ltb, length, Result, Ok, Err}
use Rattle.std.specs.List.{list_all}
use Rattle.lists.specs.Written.{written}
use Rattle.codec_stats.specs.Ledger.{Counts, too_large}
use Rattle.sample_ledgers.specs.Samples.{samples_of}
use Rattle.sheet_text.specs.SheetText.{sheet_text}
use Rattle.sheet_text.specs.declared.refusal.SheetRefusal.{SheetRefusal}
use Rattle.sheet_text.specs.declared.refusal.SheetRefusal.TheVariants.{LedgerTooLarge, BufferTooSmall}

-- a ledger that refusal 10 does not refuse
abbrev pub within_limits : Counts → Bool
within_limits l = not (too_large l)

-- 10: 'for the sheet, 10 looks at every sample', with a family or without
unfoldable pub some_too_large : (samples : List ℕ) → Bool
some_too_large samples = not (list_all within_limits (samples_of samples))

-- 21: 'text buffer under 16,384 bytes'
abbrev pub small_buffer : (room : ℕ) → Bool
small_buffer room = ltb room 16384

-- 10 before 21: lowest number first
unfoldable pub sheet_refusal : (samples : List ℕ) → (room : ℕ) → Result Unit SheetRefusal
sheet_refusal samples room = cond (some_too_large samples) (Err LedgerTooLarge) (cond (small_buffer room) (Err BufferTooSmall) (Ok tt))

-- the text's length, or the refusal
abbrev pub answer_at : Result Unit SheetRefusal → (text : List ℕ) → Result ℕ SheetRefusal
answer_at (Ok accepted) text = Ok (length text)
answer_at (Err refusal) text = Err refusal

-- a refusal leaves a buffer as it was
abbrev pub buffer_at : Result Unit SheetRefusal → (text old : List ℕ) → List ℕ
buffer_at (Ok accepted) text old = written text old
buffer_at (Err refusal) text old = old

-- what is answered to the samples and a buffer
unfoldable pub sheet_answer : (samples old : List ℕ) → Result ℕ SheetRefusal
sheet_answer samples old = answer_at (sheet_refusal samples (length old)) (sheet_text samples)

-- what the buffer then holds
unfoldable pub sheet_buffer : (samples old : List ℕ) → List ℕ
sheet_buffer samples old = buffer_at (sheet_refusal samples (length old)) (sheet_text samples) old
