-- Document 01, `duplex-table`: the output has base, quality, depth and error.
use Rattle.std.specs.Prelude.{List, [], ◌∷◌, ◌++◌, ◌≡◌, ℕ, ◌≤◌, length, take}
use Rattle.codec_duplex.specs.Position.{combined}
use Rattle.codec_duplex.specs.declared.position.Position.{Position}
use Rattle.table_text.specs.Decimal.{decimal}
use Rattle.table_text.specs.Text.{bytes_of, space, line_feed}

-- the line of the names
abbrev pub output_names : List ℕ
output_names = bytes_of "BASE QUAL DEPTH ERR\n"

-- a number and the byte after it
unfoldable pub number_text : ℕ → ℕ → List ℕ
number_text n after = decimal n ++ (after ∷ [])

-- a position's line: single spaces, and a line feed
unfoldable pub position_text : Position → List ℕ
position_text p = (p.base ∷ space ∷ []) ++ (number_text p.quality space ++ (number_text p.depth space ++ number_text p.error line_feed))

-- the position rules applied line by line
unfoldable pub rows_text : List (Position × Position) → List ℕ
rows_text [] = []
rows_text (row ∷ more) = position_text (combined row.0 row.1) ++ rows_text more

-- the names, then the rows
unfoldable pub output_table : List (Position × Position) → List ℕ
output_table rows = output_names ++ rows_text rows

-- n counts bytes at the front of a buffer; the second part, which follows, is what lending the front asks
abbrev pub Front : ℕ → List ℕ → Type 0
Front n buffer = (n ≤ length buffer) × (n ≡ length (take n buffer))
