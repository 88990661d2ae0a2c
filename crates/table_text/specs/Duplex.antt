-- Document 01, `duplex-table`: what the program answers and writes.
use Rattle.std.specs.Prelude.{List, [], ◌∷◌, ◌++◌, ◌≡◌, ℕ, length, Result, Ok, Err}
use Rattle.lists.specs.Written.{written}
use Rattle.table_text.specs.Decimal.{decimal}
use Rattle.table_text.specs.InputTable.{Reading, table_of}
use Rattle.table_text.specs.OutputTable.{output_table}
use Rattle.table_text.specs.Text.{bytes_of, space, line_feed}
use Rattle.table_text.specs.declared.reading.Malformed.{Malformed}

-- the length of a well-formed table's output, or the first malformed line
abbrev pub answer_at : Result Unit Malformed → ℕ → Result ℕ Malformed
answer_at (Ok formed) size = Ok size
answer_at (Err malformed) size = Err malformed

-- the answer to a table that was read
unfoldable pub table_answer : Reading → Result ℕ Malformed
table_answer table = answer_at table.ending (length (output_table table.rows))

-- a refusal leaves a buffer as it was
abbrev pub buffer_at : Result ℕ Malformed → List ℕ → List ℕ → List ℕ
buffer_at (Ok size) text old = written text old
buffer_at (Err malformed) text old = old

-- what combining a table answers, and what it leaves in the lent buffer
pub record CombinedTable (input old new : List ℕ) (r : Result ℕ Malformed) : Type 0 where
  pub answer : r ≡ table_answer (table_of input)
  pub output : new ≡ buffer_at r (output_table (table_of input).rows) old

-- `refused 13 LINE` and a line feed
unfoldable pub refusal_text : ℕ → ℕ → List ℕ
refusal_text number given = bytes_of "refused " ++ (decimal number ++ (space ∷ (decimal given ++ (line_feed ∷ []))))

-- the text of a table, or of its refusal: a malformed line is 13, with the line
abbrev pub text_at : Result ℕ Malformed → List ℕ → List ℕ
text_at (Ok size) text = text
text_at (Err malformed) text = refusal_text 13 malformed.line

-- what the program writes: the output table, or only the line of the refusal
unfoldable pub standard_output : List ℕ → List ℕ
standard_output input = text_at (table_answer (table_of input)) (output_table (table_of input).rows)
