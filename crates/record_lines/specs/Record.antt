-- The text form: `R FLAGS NAME VERDICT RANK CLIPPED POSITION START COUNT`; VERDICT is 0 or 1, RANK is signed.
use Rattle.std.specs.Prelude.{List, [], ◌∷◌, ℕ, ◌-◌, eqb, ℤ, pos, negsuc, get_or, Option}
use Rattle.std.specs.Option.{option_map}
use Rattle.codec_records.specs.declared.records.Record.{Record}
use Rattle.table_text.specs.Text.{bytes_of}
use Rattle.line_text.specs.Line.{number_at, line_of}
use Rattle.line_text.specs.declared.value.Kind.{Kind}
use Rattle.line_text.specs.declared.value.Kind.TheVariants.{Plain, Signed}
use Rattle.line_text.specs.declared.value.Value.{Value}
use Rattle.line_text.specs.declared.value.Value.TheVariants.{Nothing, Number, Below}

-- a record's fields have 16, 32, 1, 32 with a sign, and four times 32 bits
abbrev pub record_layout : List Kind
record_layout =
    Plain 65535 ∷ Plain 4294967295 ∷ Plain 1 ∷ Signed 2147483647 ∷ Plain 4294967295 ∷ Plain 4294967295 ∷ Plain 4294967295 ∷ Plain 4294967295 ∷ []

-- a number with its sign
unfoldable pub integer_of : Value → ℤ
integer_of Nothing = pos 0
integer_of (Number n) = pos n
integer_of (Below n) = negsuc (n - 1)

-- the fields in their order
unfoldable pub record_from : List Value → Record
record_from values = record {
  flags = number_at values 0;
  name = number_at values 1;
  verdict = eqb (number_at values 2) 1;
  rank = integer_of (get_or values 3 Nothing);
  clipped = number_at values 4;
  position = number_at values 5;
  start = number_at values 6;
  count = number_at values 7;
}

-- a record's line
unfoldable pub record_of : List ℕ → Option Record
record_of line = option_map record_from (line_of (bytes_of "R") record_layout line)
