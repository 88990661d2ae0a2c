-- The text form: 'Every line ends in a line feed, fields are separated by single spaces, numbers are decimals without leading zeros'.
use Rattle.std.specs.Prelude.{List, [], ◌∷◌, ◌++◌, ℕ}
use Rattle.std.specs.List.{flat_map}
use Rattle.table_text.specs.Decimal.{decimal}
use Rattle.table_text.specs.Text.{space, line_feed}

-- the number of each value after a single space
unfoldable pub fields_by : {A : Type 0} → (A → ℕ) → List A → List ℕ
fields_by number values = flat_map (λ x. space ∷ decimal (number x)) values

-- each number after a single space
abbrev pub fields_text : List ℕ → List ℕ
fields_text = fields_by (λ n. n)

-- a line: its words, its fields and a line feed
unfoldable pub line_with : (words fields : List ℕ) → List ℕ
line_with words fields = words ++ (fields ++ (line_feed ∷ []))

-- a line of words and the numbers of values
abbrev pub line_by : {A : Type 0} → (A → ℕ) → (words : List ℕ) → List A → List ℕ
line_by number words values = line_with words (fields_by number values)

-- a line of words and numbers
abbrev pub line_text : (words numbers : List ℕ) → List ℕ
line_text = line_by (λ n. n)
