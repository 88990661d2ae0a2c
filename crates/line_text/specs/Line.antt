-- The text form: a line is a tag and fields, separated by single spaces.
use Rattle.std.specs.Prelude.{cond, List, [], ◌∷◌, ◌++◌, ℕ, get_or, Option, Some, None}
use Rattle.std.specs.Str.{bytes_eq}
use Rattle.table_text.specs.Fields.{Read, and_then, fields_of}
use Rattle.table_text.specs.Rows.{alone}
use Rattle.line_text.specs.Value.{magnitude, value_field}
use Rattle.line_text.specs.declared.value.Kind.{Kind}
use Rattle.line_text.specs.declared.value.Value.{Value}
use Rattle.line_text.specs.declared.value.Value.TheVariants.{Nothing}

-- the first field is the tag alone: the fields behind it
unfoldable pub behind_tag : List ℕ → List (List ℕ) → Option (List (List ℕ))
behind_tag tag [] = None
behind_tag tag (field ∷ fields) = cond (bytes_eq field tag) (Some fields) None

-- the limit of a field of 64 bits
abbrev pub any : ℕ
any = 18446744073709551615

-- values in front of those that the fields after them say
abbrev pub in_front : List Value → Read (List Value) → Read (List Value)
in_front vs (Some (ws, rest)) = Some (vs ++ ws, rest)
in_front vs None = None

-- a value for each field of a layout
unfoldable pub values_of : List Kind → List (List ℕ) → Read (List Value)
values_of [] fields = Some ([], fields)
values_of (kind ∷ kinds) fields = and_then (value_field kind fields) λ v rest. in_front (v ∷ []) (values_of kinds rest)

-- the number at a place
abbrev pub number_at : List Value → ℕ → ℕ
number_at values k = magnitude (get_or values k Nothing)

-- the values of fields that are a layout's, with nothing after them
abbrev pub values_alone : List Kind → Option (List (List ℕ)) → Option (List Value)
values_alone layout (Some fields) = alone (values_of layout fields)
values_alone layout None = None

-- a line with this tag, by its layout
unfoldable pub line_of : List ℕ → List Kind → List ℕ → Option (List Value)
line_of tag layout line = values_alone layout (behind_tag tag (fields_of line))
