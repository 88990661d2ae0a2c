-- Document 01, the table of refusals: its columns 'No.' and 'With it'. 'Lowest number first, then lowest record or strand'.
use Rattle.std.specs.Prelude.{ℕ}
use Rattle.caller.specs.declared.refusal.LedgerRefusal.{LedgerRefusal}
use Rattle.caller.specs.declared.refusal.LedgerRefusal.TheVariants.{TooLarge, Full}
use Rattle.caller.specs.declared.refusal.ReadType.{ReadType}
use Rattle.caller.specs.declared.refusal.ReadType.TheVariants.{R1, R2}
use Rattle.caller.specs.declared.refusal.Refusal.{Refusal}
use Rattle.caller.specs.declared.refusal.Refusal.TheVariants.{MinimumTooLong, TooManyRecords, BadPart, BadOperation, BadLength, BadPlace, BadColumns, BadBase, TooNarrow, Ledger, NoSuchSample}

-- 'ledger: families above 2^28 or a counter above 2^41'; 'ledger: families at 2^28'
abbrev pub ledger_number : LedgerRefusal → ℕ
ledger_number TooLarge = 10
ledger_number Full = 11

-- the number of each cause; document 02, Req 01: '20 sample number above 95, tested before all others'
abbrev pub number_of : Refusal → ℕ
-- 'minimum duplex length above 2,147,483,647'
number_of MinimumTooLong = 1
-- 'over 512 records or 8,192 operation words'
number_of TooManyRecords = 2
-- 'entered record: operations outside the slice, or over 64'
number_of (BadPart r) = 3
-- 'entered: code above 8 or length 0'
number_of (BadOperation r) = 4
-- 'entered: clipped length above 1,024, or not its operations' read bases'
number_of (BadLength r) = 5
-- 'entered: position 0 or above 536,870,911, or reference bases above that'
number_of (BadPlace r) = 6
-- 'strand columns of unequal length or above 1,024'
number_of (BadColumns strand) = 7
-- 'strand base not A C G T N n'
number_of (BadBase strand) = 8
-- 'a result column under 2,048, a list column under 512, marks under 8'
number_of TooNarrow = 9
number_of (Ledger why) = ledger_number why
number_of NoSuchSample = 20

-- '0 (R1) or 1'
abbrev pub strand_number : ReadType → ℕ
strand_number R1 = 0
strand_number R2 = 1

-- the record, the strand, or 0
abbrev pub given_of : Refusal → ℕ
given_of (BadPart r) = r
given_of (BadOperation r) = r
given_of (BadLength r) = r
given_of (BadPlace r) = r
given_of (BadColumns strand) = strand_number strand
given_of (BadBase strand) = strand_number strand
given_of _ = 0
