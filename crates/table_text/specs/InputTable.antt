-- Document 01, `duplex-table`: names, then one position a line; each line ends in a line feed; at most 2,048 positions.
use Rattle.std.specs.Prelude.{List, ℕ}
use Rattle.codec_duplex.specs.declared.position.Position.{Position}
use Rattle.table_text.specs.Reading.{Table, read_table, table_at}
use Rattle.table_text.specs.Rows.{row_of}
use Rattle.table_text.specs.Text.{bytes_of}

-- the line of the names, without its line feed
abbrev pub input_names : List ℕ
input_names = bytes_of "BA QA DA EA BB QB DB EB"

-- the rows before the first malformed line, and that line where there is one
abbrev pub Reading : Type 0
Reading = Table (Position × Position)

-- an input table
abbrev pub table_of : List ℕ → Reading
table_of input = read_table input_names row_of input

-- the table from a place of an input on, where a line of that number begins
abbrev pub table_from : List ℕ → ℕ → ℕ → Reading
table_from input line at = table_at row_of input line at
