-- Document 01, `duplex-table`: a position is base, quality, depth and error; a row of the input table is two of them.
use Rattle.std.specs.Prelude.{List, [], ◌∷◌, ℕ, Option, Some, None}
use Rattle.codec_duplex.specs.declared.position.Position.{Position}
use Rattle.table_text.specs.Fields.{Read, and_then, fields_of, base_field, number_field}

-- qualities go to 255, depths and errors to 65,535
unfoldable pub position_fields : List (List ℕ) → Read Position
position_fields four =
    and_then (base_field four) λ base three.
    and_then (number_field 255 three) λ quality two.
    and_then (number_field 65535 two) λ depth one.
    and_then (number_field 65535 one) λ error rest.
    Some (record { base = base; quality = quality; depth = depth; error = error }, rest)

-- two positions
abbrev pub pair_fields : List (List ℕ) → Read (Position × Position)
pair_fields fields =
    and_then (position_fields fields) λ first more.
    and_then (position_fields more) λ second rest.
    Some ((first, second), rest)

-- nothing stands after it
abbrev pub alone : {A : Type 0} → Read A → Option A
alone (Some (a, [])) = Some a
alone (Some (a, field ∷ more)) = None
alone None = None

-- a line of the input table
unfoldable pub row_of : List ℕ → Option (Position × Position)
row_of line = alone (pair_fields (fields_of line))

-- a line of the output table
unfoldable pub position_line : List ℕ → Option Position
position_line line = alone (position_fields (fields_of line))
