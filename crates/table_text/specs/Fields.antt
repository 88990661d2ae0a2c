-- Document 01, `duplex-table`: single spaces stand between the fields of a line.
use Rattle.std.specs.Prelude.{Bool, cond, ◌||◌, List, [], ◌∷◌, ℕ, leb, eqb, length, drop, Option, Some, None}
use Prim.Native.Char.{code}
use Rattle.table_text.specs.Decimal.{number}
use Rattle.table_text.specs.Parts.{Parts, last, ended, parts}
use Rattle.table_text.specs.Text.{space}

-- the parts as a list
unfoldable pub listed : Parts → List (List ℕ)
listed (last part) = part ∷ []
listed (ended part more) = part ∷ listed more

-- the fields of a line: its parts at the spaces
abbrev pub fields_of : List ℕ → List (List ℕ)
fields_of line = listed (parts space line)

-- the fields from a place of a line on; past its end there are none
unfoldable pub fields_from : List ℕ → ℕ → List (List ℕ)
fields_from line at = cond (leb at (length line)) (fields_of (drop at line)) []

-- what the first of some fields say, with the fields after them
abbrev pub Read : Type 0 → Type 0
Read A = Option (A × List (List ℕ))

-- a first reading, and a second one of the fields after it
abbrev pub and_then : {A B : Type 0} → Read A → (A → List (List ℕ) → Read B) → Read B
and_then (Some (a, rest)) second = second a rest
and_then None second = None

-- the bases
abbrev pub is_base : ℕ → Bool
is_base b = eqb b (code "A") || eqb b (code "C") || eqb b (code "G") || eqb b (code "T") || eqb b (code "N") || eqb b (code "n")

-- a field that is one base
unfoldable pub base_field : List (List ℕ) → Read ℕ
base_field [] = None
base_field ([] ∷ rest) = None
base_field ((b ∷ []) ∷ rest) = cond (is_base b) (Some (b, rest)) None
base_field ((b ∷ c ∷ bs) ∷ rest) = None

-- a field's number, with the fields after it
abbrev pub value_of : Option ℕ → List (List ℕ) → Read ℕ
value_of (Some v) rest = Some (v, rest)
value_of None rest = None

-- a field that is a decimal, at most the limit
unfoldable pub number_field : ℕ → List (List ℕ) → Read ℕ
number_field limit [] = None
number_field limit (field ∷ rest) = value_of (number limit field) rest

-- a value and the place of a line after it, as the value with the fields from there on
abbrev pub read_in : {A : Type 0} → List ℕ → Option (A × ℕ) → Read A
read_in line (Some (a, next)) = Some (a, fields_from line next)
read_in line None = None
