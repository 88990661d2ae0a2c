-- The text form: `B BASES / Q q q .. / D d d .. / E e e ..` for R1's strand if R1 is 1, then for R2's if R2 is 1.
use Rattle.std.specs.Prelude.{Bool, cond, List, ℕ, Option, Some, None, Ok}
use Rattle.codec_duplex.specs.Columns.{Strand, strand}
use Rattle.table_text.specs.Parts.{Parts}
use Rattle.table_text.specs.Text.{bytes_of}
use Rattle.line_text.specs.Bases.{bases_line}
use Rattle.line_text.specs.Numbers.{numbers_line}
use Rattle.line_text.specs.Reading.{Reading, and_next, mapped, one_line}

-- a line of at most 1,100 numbers
unfoldable pub column_from : List ℕ → ℕ → Parts → Reading (List ℕ)
column_from tag limit text = one_line (numbers_line tag limit 1100) text

-- a strand's four lines; qualities go to 255, depths and errors to 65,535
unfoldable pub strand_from : Parts → Reading Strand
strand_from text =
    and_next (one_line bases_line text) λ bases at_quals.
    and_next (column_from (bytes_of "Q") 255 at_quals) λ quals at_depths.
    and_next (column_from (bytes_of "D") 65535 at_depths) λ depths at_errors.
    and_next (column_from (bytes_of "E") 65535 at_errors) λ errors rest.
    Ok (strand bases quals depths errors, rest)

-- where its lines follow
unfoldable pub strand_if : Bool → Parts → Reading (Option Strand)
strand_if follows text = cond follows (mapped Some (strand_from text)) (Ok (None, text))
