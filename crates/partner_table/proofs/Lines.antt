-- The first wrong line of what is left of two tables, at places where a line of that number begins.
use mathlib.Core.List.{List, [], ◌∷◌}
use mathlib.Core.Path.{◌≡◌, refl}
use Prim.Native.Nat.{ℕ, suc, ◌+◌}
use native.Mathlib.Omega.{arith}
use borrow.Author.Tests.{eq-eqb, ne_eqb}
use lib.ListN.{length}
use Rattle.std.specs.Prelude.{Result, Ok, Err}
use Rattle.codec_duplex.specs.Position.{combined}
use Rattle.codec_duplex.specs.declared.position.Position.{Position}
use Rattle.table_text.specs.Rows.{position_line, row_of}
use Rattle.table_text.specs.InputTable.{input_names, table_of, table_from}
use Rattle.table_text.specs.OutputReading.{partner_names, partner_table, partner_from}
use Rattle.table_text.specs.Parts.{parts, ended_parts}
use Rattle.table_text.specs.Reading.{RowRead}
use Rattle.table_text.proofs.Tables.{lines_counted}
use Rattle.partner_table.specs.Check.{first_wrong_field, wrong_or, first_wrong, combined_rows, compared, WellFormed}
use Rattle.partner_table.specs.declared.fault.Fault.{Fault}
use Rattle.partner_table.specs.declared.fault.Fault.TheVariants.{UnequalLines}

abbrev pub wrong_from : (ours theirs : List ℕ) → (line at other : ℕ) → Result Unit Fault
wrong_from ours theirs line at other = first_wrong line (combined_rows (table_from ours line at).rows) (partner_from theirs line other).rows

-- none is wrong where ours has no line left
pub none_ours : (line : ℕ) (rows : List (Position × Position)) (given : List Position) → rows ≡ [] → first_wrong line (combined_rows rows) given ≡ Ok tt
unfolding first_wrong
none_ours line rows given e = rw e

-- nor where theirs has none
pub none_theirs : (line : ℕ) (right given : List Position) → given ≡ [] → first_wrong line right given ≡ Ok tt
unfolding first_wrong
none_theirs line [] given e = refl
none_theirs line (r ∷ rs) given e = rw e

-- else it is this one, or the first wrong one after it
pub line_compared : (ours theirs : List ℕ) (line at other : ℕ) (row : Position × Position) (given : Position) (after past : ℕ)
    → RowRead row_of ours line at row after → RowRead position_line theirs line other given past
    → wrong_from ours theirs line at other ≡ wrong_or line (first_wrong_field (combined row.0 row.1) given) (wrong_from ours theirs (line + 1) after past)
unfolding first_wrong
line_compared ours theirs line at other row given after past our their = rw (our.3, their.3)

-- of well-formed tables the lines are the rows and the names
module _ (ours theirs : List ℕ) (our-formed : WellFormed (table_of ours)) (their-formed : WellFormed (partner_table theirs)) where
  our_lines : suc (length (table_of ours).rows) ≡ ended_parts (parts 10 ours)
  our_lines = lines_counted input_names row_of ours our-formed

  their_lines : suc (length (partner_table theirs).rows) ≡ ended_parts (parts 10 theirs)
  their_lines = lines_counted partner_names position_line theirs their-formed

  -- so that their numbers are unequal too
  pub lines_unequal : (ended_parts (parts 10 ours) ≡ ended_parts (parts 10 theirs) → ⊥) → compared (table_of ours).rows (partner_table theirs).rows ≡ Err UnequalLines
  lines_unequal h = rw (ne_eqb (length (table_of ours).rows) (length (partner_table theirs).rows) (λ e. h (omega (arith, e, our_lines, their_lines))))

  -- and of equal numbers the lines are compared
  pub lines_equal : ended_parts (parts 10 ours) ≡ ended_parts (parts 10 theirs) → compared (table_of ours).rows (partner_table theirs).rows ≡ first_wrong 2 (combined_rows (table_of ours).rows) (partner_table theirs).rows
  lines_equal h = rw (eq-eqb (length (table_of ours).rows) (length (partner_table theirs).rows) (omega (arith, h, our_lines, their_lines)))
