-- Document 02, Req 01: the samples' ledgers as text, 'one line of decimals for each sample with a family, samples rising'.
use Rattle.std.specs.Prelude.{cond, List, [], ◌∷◌, ◌++◌, ℕ, eqb}
use Rattle.codec_stats.specs.Ledger.{filtered, millionths}
use Rattle.codec_stats.specs.declared.ledger.Ledger.{Ledger}
use Rattle.sample_ledgers.specs.Samples.{sample_total, ledger_at}
use Rattle.table_text.specs.OutputTable.{number_text}
use Rattle.table_text.specs.Text.{bytes_of, space, line_feed}
use Rattle.table_text.specs.Texts.{texts}

-- the line of the names
abbrev pub sheet_names : List ℕ
sheet_names = bytes_of "SAMPLE FAMILIES RECORDS FILTERED CALLED BASES DUPLEX DIFFER PPM\n"

-- numbers on a line, 'spaced and ended as 01's tables are': single spaces, and a line feed
unfoldable pub numbers_text : List ℕ → List ℕ
numbers_text [] = []
numbers_text (n ∷ []) = number_text n line_feed
numbers_text (n ∷ m ∷ more) = number_text n space ++ numbers_text (m ∷ more)

-- a sample's number and the eight figures that the names say
unfoldable pub sample_line : (sample : ℕ) → Ledger → List ℕ
sample_line sample l =
    numbers_text (sample ∷ l.families ∷ l.records ∷ filtered l ∷ l.duplexes ∷ l.bases ∷ l.duplex_bases ∷ l.disagreements ∷ millionths l ∷ [])

-- a sample without a family has no line
unfoldable pub sample_text : (sample : ℕ) → Ledger → List ℕ
sample_text sample l = cond (eqb l.families 0) [] (sample_line sample l)

-- the lines of the samples whose ledgers an array holds
unfoldable pub samples_text : List ℕ → List ℕ
samples_text samples = texts (λ s. sample_text s (ledger_at samples s)) sample_total

-- the names, then the lines
unfoldable pub sheet_text : List ℕ → List ℕ
sheet_text samples = sheet_names ++ samples_text samples
