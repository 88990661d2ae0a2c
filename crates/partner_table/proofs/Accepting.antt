-- What the check's answers say.
use mathlib.Core.Bool.{Bool, true, false, cond}
use mathlib.Core.List.{List, [], ◌∷◌}
use mathlib.Core.Path.{◌≡◌, refl, subst}
use Prim.Native.Nat.{ℕ, zero, suc, ◌+◌, ◌<◌}
use native.Mathlib.Omega.{arith}
use borrow.Author.Tests.{eqb-true, eqb-false}
use lib.Dec.{eqb}
use lib.ListN.{length, get_or, length-map}
use Rattle.std.proofs.lemmas.List.{get_or-map}
use Rattle.std.specs.Prelude.{Option, Some, None, Result, Ok, Err}
use Rattle.codec_duplex.specs.Position.{combined}
use Rattle.codec_duplex.specs.declared.position.Position.{Position}
use Rattle.table_text.specs.InputTable.{table_of}
use Rattle.table_text.specs.declared.reading.Malformed.{Malformed}
use Rattle.partner_table.specs.declared.fault.Whose.TheVariants.{Ours, Theirs}
use Rattle.partner_table.specs.Check.{WellFormed, first_wrong_field, wrong_or, first_wrong, combined_rows, compared, malformed_or, checked}
use Rattle.partner_table.specs.declared.fault.Fault.{Fault}
use Rattle.partner_table.specs.declared.fault.Fault.TheVariants as faults
use Rattle.partner_table.specs.declared.fault.Field.{Field}
use Rattle.partner_table.specs.declared.fault.Field.TheVariants.{Base, Quality, Depth, Error}
use Rattle.table_text.specs.OutputReading.{partner_table}
use Rattle.partner_table.specs.Promises.{no_position, right_at, given_at, SameFields, FirstField, Comparable, Says}

-- what a line's first wrong field says
abbrev FieldSays : (right given : Position) → Option Field → Type 0
FieldSays right given None = SameFields right given
FieldSays right given (Some field) = FirstField right given field

-- it is said of the field that is found
pub field_says : (right given : Position) → FieldSays right given (first_wrong_field right given)
unfolding first_wrong_field
field_says right given = base (eqb right.base given.base) refl
  where
    error : right.base ≡ given.base → right.quality ≡ given.quality → right.depth ≡ given.depth → (t : Bool) → eqb right.error given.error ≡ t → FieldSays right given (cond t None (Some Error))
    error b q d true e = (b, q, d, eqb-true _ _ e)
    error b q d false e = (b, q, d, eqb-false _ _ e)

    depth : right.base ≡ given.base → right.quality ≡ given.quality → (t : Bool) → eqb right.depth given.depth ≡ t
        → FieldSays right given (cond t (cond (eqb right.error given.error) None (Some Error)) (Some Depth))
    depth b q true e = error b q (eqb-true _ _ e) (eqb right.error given.error) refl
    depth b q false e = (b, q, eqb-false _ _ e)

    quality : right.base ≡ given.base → (t : Bool) → eqb right.quality given.quality ≡ t
        → FieldSays right given (cond t (cond (eqb right.depth given.depth) (cond (eqb right.error given.error) None (Some Error)) (Some Depth)) (Some Quality))
    quality b true e = depth b (eqb-true _ _ e) (eqb right.depth given.depth) refl
    quality b false e = (b, eqb-false _ _ e)

    base : (t : Bool) → eqb right.base given.base ≡ t
        → FieldSays right given (cond t (cond (eqb right.quality given.quality) (cond (eqb right.depth given.depth) (cond (eqb right.error given.error) None (Some Error)) (Some Depth)) (Some Quality)) (Some Base))
    base true e = quality (eqb-true _ _ e) (eqb right.quality given.quality) refl
    base false e = eqb-false _ _ e

-- what an answer says of equally many positions, the first of them in the line of that number
abbrev ListsSay : ℕ → (right given : List Position) → Result Unit Fault → Type 0
ListsSay line right given (Ok accepted) = (k : ℕ) → k < length right → SameFields (get_or right k no_position) (get_or given k no_position)
ListsSay line right given (Err (faults.Wrong l field)) =
    (place : ℕ) × (l ≡ place + line) × (place < length right) × ((k : ℕ) → k < place → SameFields (get_or right k no_position) (get_or given k no_position)) × FirstField (get_or right place no_position) (get_or given place no_position) field
ListsSay line right given (Err (faults.Malformed whose l)) = ⊥
ListsSay line right given (Err faults.UnequalLines) = ⊥

lists_say : (line : ℕ) (right given : List Position) → length right ≡ length given → ListsSay line right given (first_wrong line right given)
unfolding first_wrong
lists_say line [] given h = λ k below. absurd (omega arith)
lists_say line (r ∷ rs) [] h = absurd (omega arith)
lists_say line (r ∷ rs) (g ∷ gs) h = go (first_wrong_field r g) (field_says r g) (first_wrong (line + 1) rs gs) (lists_say (line + 1) rs gs (omega arith))
  where
    and-after : SameFields r g → (n : ℕ) → ((k : ℕ) → k < n → SameFields (get_or rs k no_position) (get_or gs k no_position)) → (k : ℕ) → k < suc n → SameFields (get_or (r ∷ rs) k no_position) (get_or (g ∷ gs) k no_position)
    and-after same n more zero below = same
    and-after same n more (suc k) below = more k (omega arith)

    go : (found : Option Field) → FieldSays r g found → (after : Result Unit Fault) → ListsSay (line + 1) rs gs after → ListsSay line (r ∷ rs) (g ∷ gs) (wrong_or line found after)
    go None same (Ok accepted) more = and-after same (length rs) more
    go None same (Err (faults.Wrong l field)) more = (suc more.0, omega (arith, more.1), omega (arith, more.2), and-after same more.0 more.3, more.4)
    go None same (Err (faults.Malformed whose l)) more = more
    go None same (Err faults.UnequalLines) more = more
    go (Some field) first after more = (0, omega arith, omega arith, (λ k below. absurd (omega arith)), first)

-- the answer says what it stands for
pub checked_says : (ours theirs : List ℕ) → Says ours theirs (checked ours theirs)
unfolding checked
checked_says ours theirs = first (table_of ours).ending refl
  where
    rows : List (Position × Position)
    rows = (table_of ours).rows

    given : List Position
    given = (partner_table theirs).rows

    right_at_lem : (k : ℕ) → k < length rows → get_or (combined_rows rows) k no_position ≡ right_at ours k
    right_at_lem k below = get_or-map (λ (row : Position × Position). combined row.0 row.1) rows k (no_position, no_position) no_position below

    as_lines : Comparable ours theirs → (a : Result Unit Fault) → ListsSay 2 (combined_rows rows) given a → Says ours theirs a
    as_lines c (Ok accepted) says =
        record {
          comparable = c;
          every_line = λ k below. subst (λ (p : Position). SameFields p (given_at theirs k)) (right_at_lem k below) (says k (omega (arith, length-map rows (λ (row : Position × Position). combined row.0 row.1))));
        }
    as_lines c (Err (faults.Wrong l f)) says =
        let inside : says.0 < length rows = omega (arith, says.2, length-map rows (λ (row : Position × Position). combined row.0 row.1)) in
        record {
          comparable = c;
          place = says.0;
          counted = says.1;
          inside = inside;
          lines_before_that = λ k below. subst (λ (p : Position). SameFields p (given_at theirs k)) (right_at_lem k (omega arith)) (says.3 k below);
          first_field = subst (λ (p : Position). FirstField p (given_at theirs says.0) f) (right_at_lem says.0 inside) says.4;
        }
    as_lines c (Err (faults.Malformed whose l)) says = absurd says
    as_lines c (Err faults.UnequalLines) says = absurd says

    third : WellFormed (table_of ours) → WellFormed (partner_table theirs) → (t : Bool) → eqb (length rows) (length given) ≡ t
        → Says ours theirs (cond t (first_wrong 2 (combined_rows rows) given) (Err faults.UnequalLines))
    third e f true g =
        let same : length rows ≡ length given = eqb-true (length rows) (length given) g in
        as_lines (record { ours_formed = e; theirs_formed = f; lines = same }) (first_wrong 2 (combined_rows rows) given)
        (lists_say 2 (combined_rows rows) given (omega (arith, length-map rows (λ (row : Position × Position). combined row.0 row.1))))
    third e f false g = record { ours_formed = e; theirs_formed = f; lines = eqb-false (length rows) (length given) g }

    second : WellFormed (table_of ours) → (t : Result Unit Malformed) → (partner_table theirs).ending ≡ t → Says ours theirs (malformed_or Theirs t (compared rows given))
    second e (Ok formed) f = third e f (eqb (length rows) (length given)) refl
    second e (Err malformed) f = (e, f)

    first : (t : Result Unit Malformed) → (table_of ours).ending ≡ t → Says ours theirs (malformed_or Ours t (malformed_or Theirs (partner_table theirs).ending (compared rows given)))
    first (Ok formed) e = second e (partner_table theirs).ending refl
    first (Err malformed) e = e
