-- Document 02, Req 11: what the check's answers say.
use Rattle.std.specs.Prelude.{◌≡◌, ◌≢◌, true, List, [], ◌∷◌, ℕ, ◌+◌, ◌≤◌, ◌<◌, length, get_or, Result, Ok, Err}
use Rattle.codec_duplex.specs.Position.{combined}
use Rattle.codec_duplex.specs.declared.position.Position.{Position}
use Rattle.table_text.specs.Fields.{is_base}
use Rattle.table_text.specs.InputTable.{table_of}
use Rattle.table_text.specs.OutputReading.{partner_table}
use Rattle.partner_table.specs.Check.{WellFormed, MalformedAt}
use Rattle.partner_table.specs.declared.fault.Fault.{Fault}
use Rattle.partner_table.specs.declared.fault.Fault.TheVariants.{Malformed, UnequalLines, Wrong}
use Rattle.partner_table.specs.declared.fault.Field.{Field}
use Rattle.partner_table.specs.declared.fault.Field.TheVariants.{Base, Quality, Depth, Error}
use Rattle.partner_table.specs.declared.fault.Whose.TheVariants.{Ours, Theirs}

-- stands for a place past the end, which no promise asks about
abbrev pub no_position : Position
no_position = record { base = 0; quality = 0; depth = 0; error = 0 }

-- the position rules' answer for the k-th position of an input table, and the k-th position of an output table, from 0
abbrev pub right_at : List ℕ → ℕ → Position
right_at ours k = combined (get_or (table_of ours).rows k (no_position, no_position)).0 (get_or (table_of ours).rows k (no_position, no_position)).1

abbrev pub given_at : List ℕ → ℕ → Position
given_at theirs k = get_or (partner_table theirs).rows k no_position

-- the four fields are the same
abbrev pub SameFields : (right given : Position) → Type 0
SameFields right given = (right.base ≡ given.base) × (right.quality ≡ given.quality) × (right.depth ≡ given.depth) × (right.error ≡ given.error)

-- the first field that is wrong; those before it are right
abbrev pub FirstField : (right given : Position) → Field → Type 0
FirstField right given Base = right.base ≢ given.base
FirstField right given Quality = (right.base ≡ given.base) × (right.quality ≢ given.quality)
FirstField right given Depth = (right.base ≡ given.base) × (right.quality ≡ given.quality) × (right.depth ≢ given.depth)
FirstField right given Error = (right.base ≡ given.base) × (right.quality ≡ given.quality) × (right.depth ≡ given.depth) × (right.error ≢ given.error)

-- both tables are well formed and have equally many lines
pub record Comparable (ours theirs : List ℕ) : Type 0 where
  pub ours_formed : WellFormed (table_of ours)
  pub theirs_formed : WellFormed (partner_table theirs)
  pub lines : length (table_of ours).rows ≡ length (partner_table theirs).rows

-- and every line is what the position rules give
pub record Right (ours theirs : List ℕ) : Type 0 where
  pub comparable : Comparable ours theirs
  pub every_line : (k : ℕ) → k < length (table_of ours).rows → SameFields (right_at ours k) (given_at theirs k)

-- the position k stands in line k + 2; that line's field is wrong, and all before it is right
pub record FirstWrong (ours theirs : List ℕ) (line : ℕ) (field : Field) : Type 0 where
  pub comparable : Comparable ours theirs
  pub place : ℕ
  pub counted : line ≡ place + 2
  pub inside : place < length (table_of ours).rows
  pub lines_before_that : (k : ℕ) → k < place → SameFields (right_at ours k) (given_at theirs k)
  pub first_field : FirstField (right_at ours place) (given_at theirs place) field

-- both tables are well formed, of unequal line counts
pub record Unequal (ours theirs : List ℕ) : Type 0 where
  pub ours_formed : WellFormed (table_of ours)
  pub theirs_formed : WellFormed (partner_table theirs)
  pub lines : length (table_of ours).rows ≢ length (partner_table theirs).rows

-- what an answer says of two tables: a malformed line of ours goes first, then one of theirs, then their line counts
abbrev pub Says : (ours theirs : List ℕ) → Result Unit Fault → Type 0
Says ours theirs (Ok accepted) = Right ours theirs
Says ours theirs (Err (Malformed Ours line)) = MalformedAt (table_of ours) line
Says ours theirs (Err (Malformed Theirs line)) = WellFormed (table_of ours) × MalformedAt (partner_table theirs) line
Says ours theirs (Err UnequalLines) = Unequal ours theirs
Says ours theirs (Err (Wrong line field)) = FirstWrong ours theirs line field

-- a position that a table can hold
pub record InRange (p : Position) : Type 0 where
  pub a_base : is_base p.base ≡ true
  pub quality_le : p.quality ≤ 255
  pub depth_le : p.depth ≤ 65535
  pub error_le : p.error ≤ 65535

-- both positions of each row
abbrev pub RowsInRange : List (Position × Position) → Type 0
RowsInRange [] = Unit {0}
RowsInRange (row ∷ more) = InRange row.0 × InRange row.1 × RowsInRange more
