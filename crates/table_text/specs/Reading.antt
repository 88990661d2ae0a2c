-- Reading a table, whatever its names and its rows: names, then one row a line; each line ends in a line feed; at most 2,048 rows.
use Rattle.std.specs.Prelude.{Bool, true, false, cond, ◌&&◌, List, [], ◌∷◌, ◌≡◌, ℕ, ◌+◌, ◌-◌, ◌≤◌, ◌<◌, eqb, leb, length, take, drop, Option, Some, None, Result, Ok, Err}
use Rattle.table_text.specs.Parts.{Parts, last, ended, parts}
use Rattle.table_text.specs.Text.{line_feed}
use Rattle.table_text.specs.declared.reading.Malformed.{Malformed}

-- the same bytes in the same order
unfoldable pub same_bytes : List ℕ → List ℕ → Bool
same_bytes [] [] = true
same_bytes [] (y ∷ ys) = false
same_bytes (x ∷ xs) [] = false
same_bytes (x ∷ xs) (y ∷ ys) = eqb x y && same_bytes xs ys

-- the rows before the first malformed line, and that line's number where there is one
pub record Table (A : Type 0) : Type 0 where
  pub rows : List A
  pub ending : Result Unit Malformed

-- no line is left
abbrev pub finished : {A : Type 0} → Table A
finished = record { rows = []; ending = Ok tt }

-- the first line left is malformed
abbrev pub malformed_at : {A : Type 0} → ℕ → Table A
malformed_at line = record { rows = []; ending = Err (record { line = line }) }

-- the row of a line in front of those that are read after it, or that the line is malformed
abbrev pub line_then : {A : Type 0} → ℕ → Option A → Table A → Table A
line_then line (Some a) more = record { rows = a ∷ more.rows; ending = more.ending }
line_then line None more = malformed_at line

-- the lines from a number on; the names are line 1, so line 2,049 is the last that may hold a row
unfoldable pub lines_from : {A : Type 0} → (List ℕ → Option A) → ℕ → Parts → Table A
-- and what stands after the last line feed is nothing, or a line that is not ended
lines_from line_of line (last []) = finished
lines_from line_of line (last (b ∷ bs)) = malformed_at line
lines_from line_of line (ended text more) = cond (leb line 2049) (line_then line (line_of text) (lines_from line_of (line + 1) more)) (malformed_at line)

-- an empty text, an unended first line and wrong names are malformed at line 1
abbrev pub after_names : {A : Type 0} → List ℕ → (List ℕ → Option A) → Parts → Table A
after_names names line_of (last text) = malformed_at 1
after_names names line_of (ended text more) = cond (same_bytes text names) (lines_from line_of 2 more) (malformed_at 1)

-- a table of those names, whose lines say what `line_of` says
unfoldable pub read_table : {A : Type 0} → (names : List ℕ) → (line_of : List ℕ → Option A) → (text : List ℕ) → Table A
read_table names line_of text = after_names names line_of (parts line_feed text)

-- the table from a place of a text on, where a line of that number begins
abbrev pub table_at : {A : Type 0} → (line_of : List ℕ → Option A) → (text : List ℕ) → (line at : ℕ) → Table A
table_at line_of text line at = lines_from line_of line (parts line_feed (drop at text))

-- the names are the first line, and line 2 begins after them; or another line is the first, or none
abbrev pub NamesRead : (title text : List ℕ) → Option ℕ → Type 0
NamesRead title text (Some at) = (at ≤ length text) × (parts line_feed text ≡ ended title (parts line_feed (drop at text)))
NamesRead title text None = (more : Parts) → parts line_feed text ≡ ended title more → ⊥

-- what that says of the table
abbrev pub TableNames : {A : Type 0} → (title : List ℕ) → (line_of : List ℕ → Option A) → (text : List ℕ) → Option ℕ → Type 0
TableNames title line_of text (Some at) = (at ≤ length text) × (read_table title line_of text ≡ table_at line_of text 2 at)
TableNames title line_of text None = read_table title line_of text ≡ malformed_at 1

-- the first line may hold a row: it is ended, and not past the last
abbrev pub may_hold : ℕ → Parts → Bool
may_hold line (last text) = false
may_hold line (ended text more) = leb line 2049

-- where a line that may hold a row ends
abbrev pub LineRead : (text : List ℕ) → (line at : ℕ) → Option ℕ → Type 0
LineRead text line at (Some end) =
    (line ≤ 2049) × (at ≤ end) × (end < length text) × (parts line_feed (drop at text) ≡ ended (take (end - at) (drop at text)) (parts line_feed (drop (end + 1) text)))
LineRead text line at None = may_hold line (parts line_feed (drop at text)) ≡ false

-- a line is a row, and the next one begins after it
abbrev pub RowRead : {A : Type 0} → (line_of : List ℕ → Option A) → (text : List ℕ) → (line at : ℕ) → A → (after : ℕ) → Type 0
RowRead line_of text line at a after =
    (line ≤ 2049) × (at < after) × (after ≤ length text) × (table_at line_of text line at ≡ line_then line (Some a) (table_at line_of text (line + 1) after))

-- or it is malformed
abbrev pub NextRead : {A : Type 0} → (line_of : List ℕ → Option A) → (text : List ℕ) → (line at : ℕ) → Option (A × ℕ) → Type 0
NextRead line_of text line at (Some (a, after)) = RowRead line_of text line at a after
NextRead line_of text line at None = table_at line_of text line at ≡ malformed_at line
