-- Document 02, Req 11: accept if and only if every line is what the position rules give.
use Rattle.std.specs.Prelude.{cond, List, [], ◌∷◌, map, ◌≡◌, ℕ, ◌+◌, eqb, length, Option, Some, None, Result, Ok, Err}
use Rattle.codec_duplex.specs.Position.{combined}
use Rattle.codec_duplex.specs.declared.position.Position.{Position}
use Rattle.table_text.specs.InputTable.{table_of}
use Rattle.table_text.specs.declared.reading.Malformed.{Malformed}
use Rattle.table_text.specs.OutputReading.{partner_table}
use Rattle.table_text.specs.Reading.{Table}
use Rattle.partner_table.specs.declared.fault.Fault.{Fault}
use Rattle.partner_table.specs.declared.fault.Fault.TheVariants as faults
use Rattle.partner_table.specs.declared.fault.Field.{Field}
use Rattle.partner_table.specs.declared.fault.Field.TheVariants.{Base, Quality, Depth, Error}
use Rattle.partner_table.specs.declared.fault.Whose.{Whose}
use Rattle.partner_table.specs.declared.fault.Whose.TheVariants.{Ours, Theirs}

-- the first of the four fields that differs
unfoldable pub first_wrong_field : (right given : Position) → Option Field
first_wrong_field right given =
    cond (eqb right.base given.base) (cond (eqb right.quality given.quality) (cond (eqb right.depth given.depth) (cond (eqb right.error given.error) None (Some Error)) (Some Depth)) (Some Quality)) (Some Base)

-- a line's wrong field, or what is found after the line
abbrev pub wrong_or : ℕ → Option Field → Result Unit Fault → Result Unit Fault
wrong_or line None after = after
wrong_or line (Some field) after = Err (faults.Wrong line field)

-- the first wrong line, from a line's number on; it is asked of equally many
unfoldable pub first_wrong : ℕ → (right given : List Position) → Result Unit Fault
first_wrong line [] given = Ok tt
first_wrong line (r ∷ rs) [] = Ok tt
first_wrong line (r ∷ rs) (g ∷ gs) = wrong_or line (first_wrong_field r g) (first_wrong (line + 1) rs gs)

-- what the position rules give, line by line
abbrev pub combined_rows : List (Position × Position) → List Position
combined_rows rows = map (λ row. combined row.0 row.1) rows

-- tables of unequal line counts; else the first line, counted as for 13, that is wrong
abbrev pub compared : List (Position × Position) → List Position → Result Unit Fault
compared ours theirs = cond (eqb (length ours) (length theirs)) (first_wrong 2 (combined_rows ours) theirs) (Err faults.UnequalLines)

-- a malformed line of a table, or what is found after reading the table
abbrev pub malformed_or : Whose → Result Unit Malformed → Result Unit Fault → Result Unit Fault
malformed_or whose (Ok formed) after = after
malformed_or whose (Err malformed) after = Err (faults.Malformed whose malformed.line)

-- no line is malformed
abbrev pub WellFormed : {A : Type 0} → Table A → Type 0
WellFormed t = t.ending ≡ Ok tt

-- a table's first malformed line
abbrev pub MalformedAt : {A : Type 0} → Table A → ℕ → Type 0
MalformedAt t line = t.ending ≡ Err (record { line = line })

-- both tables are read whole, the input table first; then they are compared
unfoldable pub checked : (ours theirs : List ℕ) → Result Unit Fault
checked ours theirs =
    malformed_or Ours (table_of ours).ending
    (malformed_or Theirs (partner_table theirs).ending
    (compared (table_of ours).rows (partner_table theirs).rows))
