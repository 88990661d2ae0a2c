-- Laws of the fields of a line.
use mathlib.Core.Bool.{Bool, true, false}
use mathlib.Core.List.{List, [], ◌∷◌}
use mathlib.Core.Path.{◌≡◌, refl, ap}
use Prim.Native.Nat.{ℕ, ◌+◌, ◌-◌, ◌≤◌, ◌<◌}
use native.Mathlib.Omega.{arith}
use borrow.Author.Tests.{le-leb, lt-leb, ltb-true, ltb-false}
use lib.Dec.{ltb, leb-zero}
use lib.ListN.{length, take, drop, length-drop}
use lib.Seq.{take_all}
use Rattle.std.specs.Bool.{then_some}
use Rattle.std.specs.Prelude.{Option, Some, None}
use Rattle.table_text.specs.Bytes.{index_of}
use Rattle.table_text.specs.Decimal.{number}
use Rattle.table_text.specs.Fields.{Read, listed, fields_of, fields_from, value_of, number_field}
use Rattle.table_text.specs.Rows.{alone}
use Rattle.table_text.specs.Parts.{Parts, last, ended, parts}
use Rattle.table_text.proofs.Decimals.{number-le}
use Rattle.table_text.proofs.Partings.{part_ended, part_last}

-- from the first place on they are all
pub fields_whole : (line : List ℕ) → fields_of line ≡ fields_from line 0
unfolding fields_from
fields_whole line = rw (leb-zero (length line))

-- past the end there is no field
pub fields_none : (line : List ℕ) (at : ℕ) → length line < at → fields_from line at ≡ []
unfolding fields_from
fields_none line at h = rw (lt-leb at (length line) h)

-- the first field goes up to the next space or the end
pub fields_next : (line : List ℕ) (at end : ℕ) → at ≤ length line → end ≡ at + index_of 32 (drop at line) → end ≤ length line
    → fields_from line at ≡ take (end - at) (drop at line) ∷ fields_from line (end + 1)
unfolding fields_from listed
fields_next line at end inside is h = go (ltb end (length line)) refl
  where
    go : (t : Bool) → ltb end (length line) ≡ t → fields_from line at ≡ take (end - at) (drop at line) ∷ fields_from line (end + 1)
    go true e =
        let before : end < length line = ltb-true end (length line) e in
        rw (le-leb at (length line) inside, le-leb (end + 1) (length line) (omega arith), part_ended 32 line at end is before)
    go false e =
        let past : length line ≤ end = ltb-false end (length line) e in
        rw (le-leb at (length line) inside, part_last 32 line at end is inside past, lt-leb (end + 1) (length line) (omega arith), take_all (end - at) (drop at line) (omega (arith, length-drop at line)))

-- up to the end there is one
pub fields_some : (line : List ℕ) (at : ℕ) → at ≤ length line → (field : List ℕ) × (more : List (List ℕ)) × (fields_from line at ≡ field ∷ more)
unfolding fields_from listed
fields_some line at h = rw (le-leb at (length line) h) (go (parts 32 (drop at line)))
  where
    go : (p : Parts) → (field : List ℕ) × (more : List (List ℕ)) × (listed p ≡ field ∷ more)
    go (last part) = (part, [], refl)
    go (ended part more) = (part, listed more, refl)

-- nothing stands after a value exactly where the place after it is past the end
pub alone-fields : {A : Type 0} (a : A) (line : List ℕ) (next : ℕ) → alone (Some (a, fields_from line next)) ≡ then_some (ltb (length line) next) a
alone-fields a line next = go (ltb (length line) next) refl
  where
    go : (t : Bool) → ltb (length line) next ≡ t → alone (Some (a, fields_from line next)) ≡ then_some t a
    go true e = rw (fields_none line next (ltb-true (length line) next e))
    go false e = rw ((fields_some line next (ltb-false (length line) next e)).2)

-- what is read is a value and the fields after it
pub same-read : {A : Type 0} {a b : A} {more rest : List (List ℕ)} → ◌≡◌ {A = Read A} (Some (a, more)) (Some (b, rest)) → (a ≡ b) × (more ≡ rest)
same-read {A} {a} {b} {more} {rest} e =
    let both : ◌≡◌ {A = A × List (List ℕ)} (a, more) (b, rest) = cc in
    (ap (λ (r : A × List (List ℕ)). r.0) both, ap (λ (r : A × List (List ℕ)). r.1) both)

value_of_lem : (n : Option ℕ) (v : ℕ) (after rest : List (List ℕ)) → value_of n after ≡ Some (v, rest) → n ≡ Some v
value_of_lem (Some x) v after rest e = ap Some (same-read e).0
value_of_lem None v after rest e = absurd cc

-- a number that is read from a field is within its limit
pub number_field_le : (limit : ℕ) (fields : List (List ℕ)) (v : ℕ) (rest : List (List ℕ)) → number_field limit fields ≡ Some (v, rest) → v ≤ limit
unfolding number_field
number_field_le limit [] v rest e = absurd cc
number_field_le limit (field ∷ after) v rest e = number-le limit field v (value_of_lem (number limit field) v after rest e)
