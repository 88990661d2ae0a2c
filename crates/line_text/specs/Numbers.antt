-- The text form: `O W W ..` and a strand's `Q q q ..`, `D d d ..`, `E e e ..`; just the tag for none.
use Rattle.std.specs.Prelude.{cond, List, [], ◌∷◌, ◌++◌, ℕ, ◌-◌, ltb, eqb, length, Option, Some, None}
use Prim.Native.Char.{code}
use Rattle.std.specs.Option.{option_map}
use Rattle.table_text.specs.Decimal.{number}
use Rattle.table_text.specs.Fields.{fields_of}
use Rattle.line_text.specs.Line.{behind_tag}

-- numbers in front of those that are read after them
abbrev pub after : List ℕ → Option (List ℕ) → Option (List ℕ)
after ns more = option_map (λ ms. ns ++ ms) more

-- a number in front of others
abbrev pub number_then : Option ℕ → Option (List ℕ) → Option (List ℕ)
number_then (Some v) more = after (v ∷ []) more
number_then None more = None

-- at most room fields, each a number up to the limit
unfoldable pub numbers_of : ℕ → ℕ → List (List ℕ) → Option (List ℕ)
numbers_of room limit [] = Some []
numbers_of room limit (field ∷ fields) = cond (ltb 0 room) (number_then (number limit field) (numbers_of (room - 1) limit fields)) None

-- the same of what stands after a tag
abbrev pub numbers_after : ℕ → ℕ → Option (List (List ℕ)) → Option (List ℕ)
numbers_after limit room (Some fields) = numbers_of room limit fields
numbers_after limit room None = None

-- a line with this tag and at most room numbers
unfoldable pub numbers_line : List ℕ → ℕ → ℕ → List ℕ → Option (List ℕ)
numbers_line tag limit room line = numbers_after limit room (behind_tag tag (fields_of line))

-- as many as announced
abbrev pub exactly : ℕ → Option (List ℕ) → Option (List ℕ)
exactly count (Some ns) = cond (eqb (length ns) count) (Some ns) None
exactly count None = None

-- a family's operation words, of 32 bits
unfoldable pub words_line : ℕ → List ℕ → Option (List ℕ)
words_line count line = exactly count (numbers_line (code "O" ∷ []) 4294967295 count line)
