-- The text form: numbers are decimals without leading zeros; a signed number may begin with `-`; a lone `-` means none.
use Rattle.std.specs.Prelude.{Bool, true, false, cond, ◌&&◌, List, [], ◌∷◌, ℕ, ◌+◌, leb, take, drop, Option, Some, None}
use Prim.Native.Char.{code}
use Rattle.std.specs.Option.{option_map}
use Rattle.std.specs.Str.{bytes_eq}
use Rattle.table_text.specs.Decimal.{number}
use Rattle.table_text.specs.Fields.{Read}
use Rattle.line_text.specs.declared.value.Kind.{Kind}
use Rattle.line_text.specs.declared.value.Kind.TheVariants.{Plain, OrNone, Signed}
use Rattle.line_text.specs.declared.value.Value.{Value}
use Rattle.line_text.specs.declared.value.Value.TheVariants.{Nothing, Number, Below}

-- how far it is from 0; of none, 0
abbrev pub magnitude : Value → ℕ
magnitude Nothing = 0
magnitude (Number n) = n
magnitude (Below n) = n

-- it is not none
abbrev pub is_number : Value → Bool
is_number Nothing = false
is_number (Number n) = true
is_number (Below n) = true

-- a number from 0 on
abbrev pub plainly : ℕ → List ℕ → Option Value
plainly limit field = option_map Number (number limit field)

-- a lone `-`, or a number
unfoldable pub or_none : ℕ → List ℕ → Option Value
or_none limit field = cond (bytes_eq field (code "-" ∷ [])) (Some Nothing) (plainly limit field)

-- a number below 0: from -1 down to one beyond the limit
abbrev pub negated : ℕ → Option ℕ → Option Value
negated limit (Some v) = cond (leb 1 v && leb v (limit + 1)) (Some (Below v)) None
negated limit None = None

-- its digits are those of a number of 64 bits
unfoldable pub below : ℕ → List ℕ → Option Value
below limit digits = negated limit (number 18446744073709551615 digits)

-- digits after a `-`, or a number
unfoldable pub signed : ℕ → List ℕ → Option Value
signed limit field = cond (bytes_eq (take 1 field) (code "-" ∷ [])) (below limit (drop 1 field)) (plainly limit field)

-- the value of a field of a kind; a number is at most its limit
unfoldable pub field_value : Kind → List ℕ → Option Value
field_value (Plain limit) field = plainly limit field
field_value (OrNone limit) field = or_none limit field
field_value (Signed limit) field = signed limit field

-- a field's value, with the fields after it
abbrev pub value_then : Option Value → List (List ℕ) → Read Value
value_then (Some v) rest = Some (v, rest)
value_then None rest = None

-- the value of the first of some fields
unfoldable pub value_field : Kind → List (List ℕ) → Read Value
value_field kind [] = None
value_field kind (field ∷ rest) = value_then (field_value kind field) rest
