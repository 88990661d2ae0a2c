-- The ledger as a sheet for people: one figure a line, by document 01's words.
use Rattle.std.specs.Prelude.{Result, Ok, Err, List, [], ◌∷◌, ◌++◌, ℕ, ◌+◌, ◌/◌, ◌%◌, get_or}
use Prim.Native.Char.{code}
use Rattle.std.specs.Borrow.{Bor}
use Rattle.std.specs.List.{flat_map}
use Rattle.caller.specs.Refusals.{ledger_number}
use Rattle.caller.specs.declared.refusal.LedgerRefusal.{LedgerRefusal}
use Rattle.codec_stats.specs.Ledger.{rates_of}
use Rattle.codec_stats.specs.declared.ledger.Ledger.{Ledger}
use Rattle.codec_stats.specs.declared.rates.LedgerRates.{LedgerRates}
use Rattle.table_text.specs.Decimal.{decimal}
use Rattle.table_text.specs.Text.{bytes_of, space}
use Rattle.table_text.specs.Texts.{texts}
use Rattle.handover_text.specs.Handover.{reason_name}
use Rattle.answer_text.specs.Line.{fields_text, line_with, line_text}

-- a reason's name and its count
unfoldable pub reason_text : (reason count : ℕ) → List ℕ
reason_text reason count = line_with (reason_name reason) (bytes_of ":" ++ fields_text (count ∷ []))

-- 'ten reasons', 1 to 10
unfoldable pub reasons_text : (counts : List ℕ) → List ℕ
reasons_text counts = texts (λ i. reason_text (i + 1) (get_or counts i 0)) 10

-- a line for each label and its count
unfoldable pub counts_text : List (Bor (List ℕ) × ℕ) → List ℕ
counts_text lines = flat_map (λ line. line_text line.0.now (line.1 ∷ [])) lines

-- families, records and their fates
unfoldable pub fates_text : Ledger → List ℕ
fates_text l =
    line_text (bytes_of "families:") (l.families ∷ []) ++
    (line_text (bytes_of "records:") (l.records ∷ []) ++
    (reasons_text l.reasons ++
    (line_text (bytes_of "passed over:") (l.passed_over ∷ []) ++
    (line_text (bytes_of "no strand:") (l.no_strand ∷ []) ++
    line_text (bytes_of "used:") (l.used ∷ [])))))

-- 'disagreement-rejected families, duplexes, bases, duplex bases, disagreements'
unfoldable pub duplexes_text : Ledger → List ℕ
duplexes_text l =
    line_text (bytes_of "disagreement-rejected families:") (l.disagreement_rejected ∷ []) ++
    (line_text (bytes_of "duplexes:") (l.duplexes ∷ []) ++
    (line_text (bytes_of "bases:") (l.bases ∷ []) ++
    (line_text (bytes_of "duplex bases:") (l.duplex_bases ∷ []) ++
    line_text (bytes_of "disagreements:") (l.disagreements ∷ []))))

-- the digit of n at a power of ten
abbrev pub digit_at : (power n : ℕ) → ℕ
digit_at power n = code "0" + n / power % 10

-- millionths as a decimal with six places after the point
unfoldable pub fraction_text : (millionths : ℕ) → List ℕ
fraction_text millionths =
    (space ∷ decimal (millionths / 1000000)) ++
    (code "." ∷
    digit_at 100000 millionths ∷
    digit_at 10000 millionths ∷
    digit_at 1000 millionths ∷
    digit_at 100 millionths ∷
    digit_at 10 millionths ∷
    digit_at 1 millionths ∷
    [])

-- filtered, the rate to six places, rounded down, and the rate in millionths; or refusal 10
unfoldable pub rates_text : Result LedgerRates LedgerRefusal → List ℕ
rates_text (Ok found) =
    line_text (bytes_of "filtered:") (found.filtered ∷ []) ++ (line_with (bytes_of "rate:") (fraction_text found.millionths) ++ line_text (bytes_of "rate in millionths:") (found.millionths ∷ []))
rates_text (Err refusal) = line_text (bytes_of "refused:") (ledger_number refusal ∷ 0 ∷ [])

-- the sheet of a ledger: every figure
unfoldable pub sheet_text : Ledger → List ℕ
sheet_text l = fates_text l ++ (duplexes_text l ++ rates_text (rates_of l))
