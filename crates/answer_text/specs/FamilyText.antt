-- The text form, 'Output, for each family'.
use Rattle.std.specs.Prelude.{false, List, [], ◌∷◌, ◌++◌, ◌≡◌, ℕ, ◌≤◌, length, get_or, take}
use Prim.Native.Char.{code}
use Rattle.caller.specs.Reasons.{number_of}
use Rattle.caller.specs.Refusals as refusals
use Rattle.caller.specs.declared.reason.RejectionReason.TheVariants.{HighDuplexDisagreement}
use Rattle.codec_duplex.specs.Columns.{Strand, strand}
use Rattle.codec_duplex.specs.Duplex.{Duplex}
use Rattle.codec_stats.specs.Ledger.{other_counts}
use Rattle.codec_stats.specs.declared.ledger.Ledger.{Ledger}
use Rattle.codec_family.specs.Call.{Lent}
use Rattle.codec_family.specs.Ending.{is_refused, called_length}
use Rattle.codec_family.specs.declared.answer.Answer.{Answer}
use Rattle.codec_family.specs.declared.ending.Ending.{Ending}
use Rattle.codec_family.specs.declared.ending.Ending.TheVariants.{Called, Empty, NoStrand, Rejected, Disagreeing, Refused}
use Rattle.table_text.specs.Decimal.{decimal}
use Rattle.table_text.specs.Text.{bytes_of, space}
use Rattle.table_text.specs.Texts.{texts}
use Rattle.answer_text.specs.Line.{line_with, line_text}

-- `A called LENGTH | A empty | A nostrand | A rejected REASON | A refused NUMBER WITH`
unfoldable pub ending_text : Ending → List ℕ
ending_text (Called length) = line_text (bytes_of "A called") (length ∷ [])
ending_text Empty = line_text (bytes_of "A empty") []
ending_text NoStrand = line_text (bytes_of "A nostrand") []
ending_text (Rejected reason) = line_text (bytes_of "A rejected") (number_of reason ∷ [])
ending_text (Disagreeing limit) = line_text (bytes_of "A rejected") (number_of HighDuplexDisagreement ∷ [])
ending_text (Refused refusal) = line_text (bytes_of "A refused") (refusals.number_of refusal ∷ refusals.given_of refusal ∷ [])

-- `RECORD:REASON` after a space
abbrev pub listed_text : (record' reason : ℕ) → List ℕ
listed_text record' reason = (space ∷ decimal record') ++ (code ":" ∷ decimal reason)

-- the n first places of the handover list
unfoldable pub listings_text : (n : ℕ) → (records reasons : List ℕ) → List ℕ
listings_text n records reasons = texts (λ i. listed_text (get_or records i 0) (get_or reasons i 0)) n

-- `L RECORD:REASON RECORD:REASON ..`; `L` alone when empty
unfoldable pub list_text : (n : ℕ) → (records reasons : List ℕ) → List ℕ
list_text n records reasons = line_with (bytes_of "L") (listings_text n records reasons)

-- `T and 20 numbers`
unfoldable pub ledger_text : Ledger → List ℕ
ledger_text l = line_text (bytes_of "T") (l.families ∷ other_counts l)

-- a side's four lines, each begun by its letter: the n first bases as text, and the n first numbers of the other columns
unfoldable pub strand_text : (side n : ℕ) → Strand → List ℕ
strand_text side n s =
    line_with (side ∷ code "B" ∷ []) (space ∷ take n s.bases) ++
    (line_text (side ∷ code "Q" ∷ []) (take n s.quals) ++
    (line_text (side ∷ code "D" ∷ []) (take n s.depths) ++
    line_text (side ∷ code "E" ∷ []) (take n s.errors)))

-- 'the LENGTH first places of the twelve result columns (duplex, R1's strand, R2's strand)'
unfoldable pub columns_text : (n : ℕ) → Duplex → (r1 r2 : Strand) → List ℕ
columns_text n d r1 r2 =
    strand_text (code "D") n (strand d.bases d.quals d.depths d.errors) ++ (strand_text (code "1") n r1 ++ strand_text (code "2") n r2)

-- 'only after `called`' the columns
abbrev pub called_text : Ending → Lent → List ℕ
called_text (Called length) lent = columns_text length lent.duplex lent.r1 lent.r2
called_text _ lent = []

-- the list and `M w0 .. w7`
abbrev pub lists_text : (listed : ℕ) → Lent → List ℕ
lists_text listed lent = list_text listed lent.listed_records lent.listed_reasons ++ line_text (bytes_of "M") (take 8 lent.marks)

-- 'After a refusal the lines `L` and `M` are left out'
abbrev pub listed_unless_refused : Ending → (listed : ℕ) → Lent → List ℕ
listed_unless_refused (Refused refusal) listed lent = []
listed_unless_refused ending listed lent = lists_text listed lent

-- the answer of a family call, and what it left in the lent columns
unfoldable pub family_text : Answer → Lent → List ℕ
family_text answer lent =
    ending_text answer.ending ++ (listed_unless_refused answer.ending answer.listed lent ++ (called_text answer.ending lent ++ ledger_text answer.ledger))

-- n places are there in each of four columns
pub record Holding (n : ℕ) (s : Strand) : Type 0 where
  pub bases : n ≤ length s.bases
  pub quals : n ≤ length s.quals
  pub depths : n ≤ length s.depths
  pub errors : n ≤ length s.errors

-- the lent columns are as long as the answer says, and the answer within what a call can give
pub record Answered (answer : Answer) (lent : Lent) : Type 0 where
  pub few : answer.listed ≤ 512
  pub short : called_length answer.ending ≤ 2048
  pub records : answer.listed ≤ length lent.listed_records
  pub reasons : answer.listed ≤ length lent.listed_reasons
  pub marks : is_refused answer.ending ≡ false → 8 ≤ length lent.marks
  pub duplex : Holding (called_length answer.ending) (strand lent.duplex.bases lent.duplex.quals lent.duplex.depths lent.duplex.errors)
  pub r1 : Holding (called_length answer.ending) lent.r1
  pub r2 : Holding (called_length answer.ending) lent.r2
