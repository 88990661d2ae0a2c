-- What duplex-table writes is the only text that is accepted.
use mathlib.Core.Bool.{Bool, true, false, cond, false≢true}
use mathlib.Core.List.{List, [], ◌∷◌, ◌++◌}
use mathlib.Core.Path.{◌≡◌, refl, sym, ◌∙◌, ap}
use Prim.Native.Nat.{ℕ, suc, ◌+◌, ◌≤◌, ◌<◌}
use native.Mathlib.Omega.{arith}
use borrow.Author.Tests.{eqb-true}
use lib.Dec.{leb, eqb}
use lib.ListN.{length, get_or, length-map}
use Rattle.std.proofs.lemmas.Bool.{and_parts}
use Rattle.std.proofs.lemmas.List.{get_or-map}
use Rattle.std.specs.Prelude.{Option, Some, None, Ok}
use Rattle.codec_duplex.specs.Position.{combined}
use Rattle.codec_duplex.specs.declared.position.Position.{Position}
use Rattle.table_text.specs.Decimal.{number, decimal}
use Rattle.table_text.specs.Duplex.{standard_output}
use Rattle.table_text.specs.Fields.{Read, is_base, value_of, listed, fields_of, base_field, number_field}
use Rattle.table_text.specs.InputTable.{table_of}
use Rattle.table_text.specs.Reading.{same_bytes}
use Rattle.table_text.specs.OutputTable.{position_text, rows_text, output_table}
use Rattle.table_text.specs.Parts.{Parts, last, ended, in_front, parts}
use Rattle.table_text.specs.Rows.{position_fields, position_line, alone}
use Rattle.partner_table.specs.Check.{combined_rows, checked}
use Rattle.table_text.specs.OutputReading.{partner_names, partner_table}
use Rattle.partner_table.specs.Promises.{no_position, right_at, given_at, SameFields, Right}
use Rattle.table_text.specs.Reading.{Table, malformed_at, line_then, lines_from, after_names, read_table}
use Rattle.table_text.proofs.FieldLists.{same-read}
use Rattle.partner_table.proofs.Exactly.{accepted_right}
use Rattle.partner_table.proofs.OwnTable.{then_read, position, written_table}
use Rattle.partner_table.proofs.ReadBack.{line_text, position-joined}
use Rattle.partner_table.proofs.Spelling.{number_once}

-- the parts put together again
joined : ℕ → Parts → List ℕ
joined byte (last part) = part
joined byte (ended part more) = part ++ (byte ∷ joined byte more)

joined_front : (byte b : ℕ) (p : Parts) → joined byte (in_front b p) ≡ b ∷ joined byte p
unfolding joined in_front
joined_front byte b (last part) = refl
joined_front byte b (ended part more) = refl

joined-ended : (part : List ℕ) (more : Parts) → joined 10 (ended part more) ≡ part ++ (10 ∷ joined 10 more)
unfolding joined
joined-ended part more = refl

joined-parts : (byte : ℕ) (text : List ℕ) → joined byte (parts byte text) ≡ text
unfolding joined parts
joined-parts byte [] = refl
joined-parts byte (b ∷ bs) = go (eqb b byte) refl (joined-parts byte bs)
  where
    go : (t : Bool) → eqb b byte ≡ t → joined byte (parts byte bs) ≡ bs → joined byte (cond t (ended [] (parts byte bs)) (in_front b (parts byte bs))) ≡ b ∷ bs
    go true e same = let here : b ≡ byte = eqb-true b byte e in rw (same, here)
    go false e same = joined_front byte b (parts byte bs) ∙ ap (λ (xs : List ℕ). b ∷ xs) same

-- fields with single spaces between them
spaced : List (List ℕ) → List ℕ
spaced [] = []
spaced (x ∷ []) = x
spaced (x ∷ y ∷ ys) = x ++ (32 ∷ spaced (y ∷ ys))

spaced-listed : (p : Parts) → spaced (listed p) ≡ joined 32 p
unfolding spaced listed joined
spaced-listed (last part) = refl
spaced-listed (ended part (last next)) = refl
spaced-listed (ended part (ended next more)) = ap (λ (xs : List ℕ). part ++ (32 ∷ xs)) (spaced-listed (ended next more))

line_fields : (line : List ℕ) → line ≡ spaced (fields_of line)
line_fields line = sym (spaced-listed (parts 32 line) ∙ joined-parts 32 line)

base_once : (given : List (List ℕ)) (b : ℕ) (rest : List (List ℕ)) → base_field given ≡ Some (b, rest) → given ≡ (b ∷ []) ∷ rest
unfolding base_field
base_once [] b rest e = absurd cc
base_once ([] ∷ more) b rest e = absurd cc
base_once ((x ∷ []) ∷ more) b rest e = go (is_base x) e
  where
    go : (t : Bool) → ◌≡◌ {A = Read ℕ} (cond t (Some (x, more)) None) (Some (b, rest)) → (x ∷ []) ∷ more ≡ (b ∷ []) ∷ rest
    go true e = let same = same-read e in rw (same.0, same.1)
    go false e = absurd cc
base_once ((x ∷ y ∷ xs) ∷ more) b rest e = absurd cc

value_once : (n : Option ℕ) (v : ℕ) (after rest : List (List ℕ)) → value_of n after ≡ Some (v, rest) → (n ≡ Some v) × (after ≡ rest)
value_once (Some x) v after rest e = let same = same-read e in (ap Some same.0, same.1)
value_once None v after rest e = absurd cc

field_once : (limit : ℕ) (given : List (List ℕ)) (v : ℕ) (rest : List (List ℕ)) → limit ≤ 65535 → number_field limit given ≡ Some (v, rest) → given ≡ decimal v ∷ rest
unfolding number_field
field_once limit [] v rest short e = absurd cc
field_once limit (field ∷ after) v rest short e =
    let both = value_once (number limit field) v after rest e in
    let one : field ≡ decimal v = number_once limit field v short both.0 in
    let two : after ≡ rest = both.1 in
    rw (one, two)

-- the four fields of a position, each spelled in its one way
abbrev four : Position → List (List ℕ) → List (List ℕ)
four p rest = (p.base ∷ []) ∷ decimal p.quality ∷ decimal p.depth ∷ decimal p.error ∷ rest

position_once : (given : List (List ℕ)) (p : Position) (rest : List (List ℕ)) → position_fields given ≡ Some (p, rest) → given ≡ four p rest
unfolding position_fields
position_once given p rest e =
    let base = then_read (base_field given) _ p rest e in
    let quality = then_read (number_field 255 base.1) _ p rest base.3 in
    let depth = then_read (number_field 65535 quality.1) _ p rest quality.3 in
    let error = then_read (number_field 65535 depth.1) _ p rest depth.3 in
    let whole = same-read error.3 in
    let found : position base.0 quality.0 depth.0 error.0 ≡ p = whole.0 in
    let end : error.1 ≡ rest = whole.1 in
    let b : given ≡ (base.0 ∷ []) ∷ base.1 = base_once given base.0 base.1 base.2 in
    let q : base.1 ≡ decimal quality.0 ∷ quality.1 = field_once 255 base.1 quality.0 quality.1 (omega arith) quality.2 in
    let d : quality.1 ≡ decimal depth.0 ∷ depth.1 = field_once 65535 quality.1 depth.0 depth.1 (omega arith) depth.2 in
    let f : depth.1 ≡ decimal error.0 ∷ error.1 = field_once 65535 depth.1 error.0 error.1 (omega arith) error.2 in
    let all : given ≡ four (position base.0 quality.0 depth.0 error.0) error.1 = b ∙ ap (λ (xs : List (List ℕ)). (base.0 ∷ []) ∷ xs) (q ∙ ap (λ (xs : List (List ℕ)). decimal quality.0 ∷ xs) (d ∙ ap (λ (xs : List (List ℕ)). decimal depth.0 ∷ xs) f)) in
    all ∙ (ap (λ (xs : List (List ℕ)). four (position base.0 quality.0 depth.0 error.0) xs) end ∙ ap (λ (x : Position). four x rest) found)

four-spaced : (p : Position) → spaced (four p []) ≡ line_text p
unfolding spaced
four-spaced p = refl

-- a line that reads as a position is its text
pub line_once : (line : List ℕ) (p : Position) → position_line line ≡ Some p → line ≡ line_text p
unfolding position_line
line_once line p e = go (position_fields (fields_of line)) refl e
  where
    go : (r : Read Position) → position_fields (fields_of line) ≡ r → alone r ≡ Some p → line ≡ line_text p
    go (Some (q, [])) f g =
        let same : q ≡ p = cc in
        line_fields line ∙ (ap spaced (position_once (fields_of line) q [] f ∙ ap (λ (x : Position). four x []) same) ∙ four-spaced p)
    go (Some (q, field ∷ more)) f g = absurd cc
    go None f g = absurd cc

-- the lines of positions
positions_text : List Position → List ℕ
positions_text [] = []
positions_text (p ∷ ps) = position_text p ++ positions_text ps

module _ (line : ℕ) (text : List ℕ) (more : Table Position) (rest : List ℕ) where
  line_joined : more.ending ≡ Ok tt → rest ≡ positions_text more.rows → (t : Option Position) → position_line text ≡ t → (line_then line t more).ending ≡ Ok tt
      → text ++ (10 ∷ rest) ≡ positions_text (line_then line t more).rows
  unfolding positions_text
  line_joined formed same (Some p) is e =
      let one : text ≡ line_text p = line_once text p is in
      rw (one, same) (sym (position-joined p (positions_text more.rows)))
  line_joined formed same None is e = absurd cc

  more_formed : (t : Option Position) → (line_then line t more).ending ≡ Ok tt → more.ending ≡ Ok tt
  more_formed (Some p) e = e
  more_formed None e = absurd cc

lines_once : (line : ℕ) (p : Parts) → (lines_from position_line line p).ending ≡ Ok tt → joined 10 p ≡ positions_text (lines_from position_line line p).rows
unfolding lines_from joined positions_text
lines_once line (last []) e = refl
lines_once line (last (b ∷ bs)) e = absurd cc
lines_once line (ended text more) e = go (leb line 2049) (lines_once (line + 1) more) e
  where
    after : Table Position
    after = lines_from position_line (line + 1) more

    go : (t : Bool) → (after.ending ≡ Ok tt → joined 10 more ≡ positions_text after.rows) → (cond t (line_then line (position_line text) after) (malformed_at line)).ending ≡ Ok tt
        → text ++ (10 ∷ joined 10 more) ≡ positions_text (cond t (line_then line (position_line text) after) (malformed_at line)).rows
    go true same e =
        let formed : after.ending ≡ Ok tt = more_formed line text after (joined 10 more) (position_line text) e in
        line_joined line text after (joined 10 more) formed (same formed) (position_line text) refl e
    go false same e = absurd cc

same_once : (xs ys : List ℕ) → same_bytes xs ys ≡ true → xs ≡ ys
unfolding same_bytes
same_once [] [] h = refl
same_once [] (y ∷ ys) h = absurd (false≢true h)
same_once (x ∷ xs) [] h = absurd (false≢true h)
same_once (x ∷ xs) (y ∷ ys) h =
    let both = and_parts (eqb x y) (same_bytes xs ys) h in
    let one : x ≡ y = eqb-true x y both.0 in
    let two : xs ≡ ys = same_once xs ys both.1 in
    rw (one, two)

-- a well-formed output table is the names and the lines of its positions
table_once : (text : List ℕ) → (partner_table text).ending ≡ Ok tt → text ≡ partner_names ++ (10 ∷ positions_text (partner_table text).rows)
unfolding read_table
table_once text e = sym (joined-parts 10 text) ∙ go (parts 10 text) e
  where
    pick : (names : List ℕ) (more : Parts) (t : Bool) → same_bytes names partner_names ≡ t → (cond t (lines_from position_line 2 more) (malformed_at 1)).ending ≡ Ok tt
        → names ++ (10 ∷ joined 10 more) ≡ partner_names ++ (10 ∷ positions_text (cond t (lines_from position_line 2 more) (malformed_at 1)).rows)
    pick names more true is e =
        ap (λ (xs : List ℕ). xs ++ (10 ∷ joined 10 more)) (same_once names partner_names is) ∙ ap (λ (xs : List ℕ). partner_names ++ (10 ∷ xs)) (lines_once 2 more e)
    pick names more false is e = absurd cc

    go : (p : Parts) → (after_names partner_names position_line p).ending ≡ Ok tt → joined 10 p ≡ partner_names ++ (10 ∷ positions_text (after_names partner_names position_line p).rows)
    go (last names) e = absurd cc
    go (ended names more) e = joined-ended names more ∙ pick names more (same_bytes names partner_names) refl e

rows_text_lem : (rows : List (Position × Position)) → rows_text rows ≡ positions_text (combined_rows rows)
unfolding rows_text positions_text
rows_text_lem [] = refl
rows_text_lem (r ∷ more) = ap (λ (xs : List ℕ). position_text (combined r.0 r.1) ++ xs) (rows_text_lem more)

output_text : (rows : List (Position × Position)) → output_table rows ≡ partner_names ++ (10 ∷ positions_text (combined_rows rows))
unfolding output_table
output_text rows = ap (λ (xs : List ℕ). partner_names ++ (10 ∷ xs)) (rows_text_lem rows)

-- positions with the same four fields are the same
same-position : (p q : Position) → SameFields p q → p ≡ q
same-position p q same =
    ap (λ (x : ℕ). position x p.quality p.depth p.error) same.0
    ∙ (ap (λ (x : ℕ). position q.base x p.depth p.error) same.1
    ∙ (ap (λ (x : ℕ). position q.base q.quality x p.error) same.2 ∙ ap (λ (x : ℕ). position q.base q.quality q.depth x) same.3))

same_list : (ps qs : List Position) → length ps ≡ length qs → ((k : ℕ) → k < length ps → get_or ps k no_position ≡ get_or qs k no_position) → ps ≡ qs
same_list [] [] h each = refl
same_list [] (q ∷ qs) h each = absurd (omega arith)
same_list (p ∷ ps) [] h each = absurd (omega arith)
same_list (p ∷ ps) (q ∷ qs) h each =
    let one : p ≡ q = each 0 (omega arith) in
    let two : ps ≡ qs = same_list ps qs (omega arith) (λ k below. each (suc k) (omega arith)) in
    ap (λ (x : Position). x ∷ ps) one ∙ ap (λ (xs : List Position). q ∷ xs) two

-- the accepted text is what duplex-table writes for the input
pub accepted_once : (ours theirs : List ℕ) → checked ours theirs ≡ Ok tt → theirs ≡ standard_output ours
accepted_once ours theirs e =
    let right : Right ours theirs = accepted_right ours theirs e in
    let formed = right.comparable in
    let same : (partner_table theirs).rows ≡ combined_rows (table_of ours).rows =
    sym (same_list (combined_rows (table_of ours).rows) (partner_table theirs).rows (length-map (table_of ours).rows combine ∙ formed.lines) (λ k below.
    let inside : k < length (table_of ours).rows = omega (arith, length-map (table_of ours).rows combine, below) in
    get_or-map combine (table_of ours).rows k (no_position, no_position) no_position inside ∙ same-position (right_at ours k) (given_at theirs k) (right.every_line k inside))) in
    table_once theirs formed.theirs_formed
    ∙ (ap (λ (ps : List Position). partner_names ++ (10 ∷ positions_text ps)) same ∙ (sym (output_text (table_of ours).rows) ∙ sym (written_table ours formed.ours_formed)))
  where
    combine : Position × Position → Position
    combine pair = combined pair.0 pair.1
