-- What duplex-table writes for a well-formed input is accepted with that input.
use mathlib.Core.Bool.{Bool, true, false, cond}
use mathlib.Core.List.{List, [], ◌∷◌}
use mathlib.Core.Path.{◌≡◌, refl, sym, ◌∙◌, ap, subst}
use Prim.Native.Nat.{ℕ, ◌+◌, ◌≤◌, ◌<◌}
use native.Mathlib.Omega.{arith}
use borrow.Author.Tests.{leb-true}
use lib.Dec.{leb}
use lib.ListN.{length, get_or, length-map}
use Rattle.std.proofs.lemmas.List.{get_or-map}
use Rattle.std.specs.Prelude.{Option, Some, None, Ok}
use Rattle.codec_duplex.specs.Position.{combined}
use Rattle.codec_duplex.specs.declared.position.Position.{Position}
use Rattle.table_text.specs.Duplex.{table_answer, standard_output}
use Rattle.table_text.specs.Fields.{Read, and_then, is_base, fields_of, base_field, number_field}
use Rattle.table_text.specs.InputTable.{Reading, table_of, input_names}
use Rattle.table_text.specs.OutputTable.{output_table}
use Rattle.table_text.specs.Parts.{Parts, last, ended, parts}
use Rattle.table_text.specs.Reading.{line_then, lines_from, after_names, read_table, same_bytes, malformed_at}
use Rattle.table_text.specs.Rows.{position_fields, alone, row_of}
use Rattle.table_text.proofs.FieldLists.{same-read, number_field_le}
use Rattle.partner_table.specs.Check.{combined_rows, checked}
use Rattle.table_text.specs.OutputReading.{partner_table}
use Rattle.partner_table.specs.Promises.{no_position, right_at, given_at, SameFields, InRange, RowsInRange}
use Rattle.partner_table.proofs.Exactly.{right_accepted}
use Rattle.partner_table.proofs.ReadBack.{output_reads}

pub then_read : {A B : Type 0} (r : Read A) (second : A → List (List ℕ) → Read B) (b : B) (rest : List (List ℕ)) → and_then r second ≡ Some (b, rest)
    → (a : A) × (mid : List (List ℕ)) × (r ≡ Some (a, mid)) × (second a mid ≡ Some (b, rest))
then_read (Some (a, mid)) second b rest e = (a, mid, refl, e)
then_read None second b rest e = absurd cc

base_taken : (t : Bool) (b c : ℕ) (more rest : List (List ℕ)) → is_base b ≡ t → ◌≡◌ {A = Read ℕ} (cond t (Some (b, more)) None) (Some (c, rest)) → is_base c ≡ true
base_taken true b c more rest is e = subst (λ (x : ℕ). is_base x ≡ true) (same-read e).0 is
base_taken false b c more rest is e = absurd cc

base_field_is : (fields : List (List ℕ)) (b : ℕ) (rest : List (List ℕ)) → base_field fields ≡ Some (b, rest) → is_base b ≡ true
unfolding base_field
base_field_is [] b rest e = absurd cc
base_field_is ([] ∷ more) b rest e = absurd cc
base_field_is ((x ∷ []) ∷ more) b rest e = base_taken (is_base x) x b more rest refl e
base_field_is ((x ∷ y ∷ xs) ∷ more) b rest e = absurd cc

abbrev pub position : ℕ → ℕ → ℕ → ℕ → Position
position b q d e = record { base = b; quality = q; depth = d; error = e }

-- a position that is read is one that a table can hold
pub position_in_lem : (fields : List (List ℕ)) (p : Position) (rest : List (List ℕ)) → position_fields fields ≡ Some (p, rest) → InRange p
unfolding position_fields
position_in_lem fields p rest e =
    let base = then_read (base_field fields) _ p rest e in
    let quality = then_read (number_field 255 base.1) _ p rest base.3 in
    let depth = then_read (number_field 65535 quality.1) _ p rest quality.3 in
    let error = then_read (number_field 65535 depth.1) _ p rest depth.3 in
    let found : position base.0 quality.0 depth.0 error.0 ≡ p = (same-read error.3).0 in
    subst (λ (x : Position). InRange x) found
    (record {
      a_base = base_field_is fields base.0 base.1 base.2;
      quality_le = number_field_le 255 base.1 quality.0 quality.1 quality.2;
      depth_le = number_field_le 65535 quality.1 depth.0 depth.1 depth.2;
      error_le = number_field_le 65535 depth.1 error.0 error.1 error.2;
    })

abbrev RowIn : Option (Position × Position) → Type 0
RowIn (Some row) = InRange row.0 × InRange row.1
RowIn None = Unit {0}

row_in : (line : List ℕ) → RowIn (row_of line)
unfolding row_of
row_in line = first (position_fields (fields_of line)) refl
  where
    second : (a : Position) → InRange a → (fields : List (List ℕ)) (r : Read Position) → position_fields fields ≡ r
        → RowIn (alone (and_then r (λ b rest. Some ((a, b), rest))))
    second a range fields (Some (b, [])) e = (range, position_in_lem fields b [] e)
    second a range fields (Some (b, field ∷ more)) e = tt
    second a range fields None e = tt

    first : (r : Read Position) → position_fields (fields_of line) ≡ r
        → RowIn (alone (and_then r (λ a more. and_then (position_fields more) (λ b rest. Some ((a, b), rest)))))
    first (Some (a, rest)) e = second a (position_in_lem (fields_of line) a rest e) rest (position_fields rest) refl
    first None e = tt

-- rows that a table can hold, not more than fit from a line on
abbrev Holds : ℕ → Reading → Type 0
Holds line r = RowsInRange r.rows × (line ≤ 2050 → line + length r.rows ≤ 2050)

row-holds : (line : ℕ) (r : Option (Position × Position)) (more : Reading) → RowIn r → line ≤ 2049 → Holds (line + 1) more → Holds line (line_then line r more)
row-holds line (Some row) more range h holds = ((range.0, range.1, holds.0), λ k. omega (arith, holds.1 (omega arith)))
row-holds line None more range h holds = (tt, λ k. omega arith)

from_holds : (line : ℕ) (p : Parts) → Holds line (lines_from row_of line p)
unfolding lines_from
from_holds line (last []) = (tt, λ k. omega arith)
from_holds line (last (b ∷ bs)) = (tt, λ k. omega arith)
from_holds line (ended text more) = go (leb line 2049) refl (from_holds (line + 1) more)
  where
    go : (t : Bool) → leb line 2049 ≡ t → Holds (line + 1) (lines_from row_of (line + 1) more) → Holds line (cond t (line_then line (row_of text) (lines_from row_of (line + 1) more)) (malformed_at line))
    go true e holds = row-holds line (row_of text) (lines_from row_of (line + 1) more) (row_in text) (leb-true line 2049 e) holds
    go false e holds = (tt, λ k. omega arith)

-- an input table's rows
pub table_holds : (input : List ℕ) → RowsInRange (table_of input).rows × (length (table_of input).rows ≤ 2048)
unfolding read_table
table_holds input = go (parts 10 input)
  where
    pick : (t : Bool) (r : Reading) → Holds 2 r → RowsInRange (cond t r (malformed_at 1)).rows × (length (cond t r (malformed_at 1)).rows ≤ 2048)
    pick true r holds = (holds.0, omega (arith, holds.1 (omega arith)))
    pick false r holds = (tt, omega arith)

    go : (p : Parts) → RowsInRange (after_names input_names row_of p).rows × (length (after_names input_names row_of p).rows ≤ 2048)
    go (last text) = (tt, omega arith)
    go (ended text more) = pick (same_bytes text input_names) (lines_from row_of 2 more) (from_holds 2 more)

-- the program writes the output table of a well-formed input
pub written_table : (input : List ℕ) → (table_of input).ending ≡ Ok tt → standard_output input ≡ output_table (table_of input).rows
unfolding standard_output table_answer
written_table input e = rw e

-- and it reads back as what the position rules give
pub written-reads : (input : List ℕ) → (table_of input).ending ≡ Ok tt → partner_table (standard_output input) ≡ record { rows = combined_rows (table_of input).rows; ending = Ok tt }
written-reads input e =
    let holds = table_holds input in
    ap partner_table (written_table input e) ∙ output_reads (table_of input).rows holds.0 holds.1

-- what duplex-table writes for a well-formed input is accepted with it
pub own_accepted : (input : List ℕ) → (table_of input).ending ≡ Ok tt → checked input (standard_output input) ≡ Ok tt
own_accepted input e =
    right_accepted input (standard_output input)
    (record {
      comparable = record { ours_formed = e; theirs_formed = ap (λ t. t.ending) (written-reads input e); lines = sym (ap length same ∙ length-map (table_of input).rows combine) };
      every_line = λ k below. all_same (at k below);
    })
  where
    combine : Position × Position → Position
    combine row = combined row.0 row.1

    same : (partner_table (standard_output input)).rows ≡ combined_rows (table_of input).rows
    same = ap (λ t. t.rows) (written-reads input e)

    at : (k : ℕ) → k < length (table_of input).rows → right_at input k ≡ given_at (standard_output input) k
    at k below = sym (ap (λ (ps : List Position). get_or ps k no_position) same ∙ get_or-map combine (table_of input).rows k (no_position, no_position) no_position below)

    all_same : {p q : Position} → p ≡ q → SameFields p q
    all_same e = (ap (λ (x : Position). x.base) e, ap (λ (x : Position). x.quality) e, ap (λ (x : Position). x.depth) e, ap (λ (x : Position). x.error) e)
