-- The text form: a family is its header, RECORDS lines of records, its operation words, and its strands; lines that set what it is handed may stand in front.
use Rattle.std.specs.Prelude.{List, [], ◌∷◌, ℕ, take, Option, Some, None, Ok, Err}
use Rattle.codec_duplex.specs.Columns.{Strand}
use Rattle.codec_records.specs.declared.records.Record.{Record}
use Rattle.table_text.specs.Parts.{Parts, last, ended}
use Rattle.line_text.specs.Reading.{Reading, cut, and_next, mapped, one_line}
use Rattle.line_text.specs.Numbers.{words_line}
use Rattle.ledger_lines.specs.Ledgers.{ledgers_from}
use Rattle.ledger_lines.specs.declared.settings.Handed.{Handed}
use Rattle.record_lines.specs.Header.{header_of}
use Rattle.record_lines.specs.Records.{records_from}
use Rattle.record_lines.specs.declared.header.Header.{Header}
use Rattle.strand_lines.specs.Strands.{strand_if}

-- the first 512 of its records, its operation words, and the strands of R1 and R2, where they follow
pub record Family : Type 0 where
  pub header : Header
  pub records : List Record
  pub words : List ℕ
  pub r1 : Option Strand
  pub r2 : Option Strand

abbrev pub family : Header → List Record → List ℕ → Option Strand → Option Strand → Family
family header records words r1 r2 = record { header = header; records = records; words = words; r1 = r1; r2 = r2 }

-- after the header: the records, the words, R1's strand and R2's
unfoldable pub family_from : Header → Parts → Reading Family
family_from header text =
    and_next (mapped (take 512) (records_from header.records text)) λ records at_words.
    and_next (one_line (words_line header.words) at_words) λ words at_r1.
    and_next (strand_if header.r1_follows at_r1) λ r1 at_r2.
    and_next (strand_if header.r2_follows at_r2) λ r2 rest.
    Ok (family header records words r1 r2, rest)

unfoldable pub family_of : Parts → Reading Family
family_of text = and_next (one_line header_of text) λ header rest. family_from header rest

-- what is handed, and a family; or no family any more
abbrev pub Call : Type 0
Call = Handed × Option Family

abbrev pub call : Handed → Family → Call
call handed f = (handed, Some f)

abbrev pub no_more : Handed → Call
no_more handed = (handed, None)

-- the text ends between two families, or there is one more
unfoldable pub family_or_end : Handed → Parts → Reading Call
family_or_end handed (last []) = Ok (no_more handed, last [])
family_or_end handed (last (b ∷ bs)) = Err (cut (last (b ∷ bs)))
family_or_end handed (ended line more) = mapped (call handed) (family_of (ended line more))

-- the next call of a text, what is handed so far given
unfoldable pub call_of : Handed → Parts → Reading Call
call_of before text = and_next (ledgers_from before text) λ handed rest. family_or_end handed rest
