-- Document 02, Req 11: the output table keeps its four fields; bases, numbers, spacing, line ends and line count as in the input table.
use Rattle.std.specs.Prelude.{List, ℕ}
use Rattle.codec_duplex.specs.declared.position.Position.{Position}
use Rattle.table_text.specs.Reading.{Table, read_table, table_at}
use Rattle.table_text.specs.Rows.{position_line}
use Rattle.table_text.specs.Text.{bytes_of}

-- the line of the names, without its line feed
abbrev pub partner_names : List ℕ
partner_names = bytes_of "BASE QUAL DEPTH ERR"

-- an output table, by the reading of the input table
abbrev pub partner_table : List ℕ → Table Position
partner_table text = read_table partner_names position_line text

-- the table from a place of a text on, where a line of that number begins
abbrev pub partner_from : List ℕ → ℕ → ℕ → Table Position
partner_from text line at = table_at position_line text line at
