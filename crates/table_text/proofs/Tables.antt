-- Laws of reading a table, whatever its names and its rows.
use mathlib.Core.Bool.{Bool, true, false, cond, and-eq-true_iff}
use mathlib.Core.List.{List, [], ◌∷◌}
use mathlib.Core.Path.{◌≡◌, refl, ◌∙◌, ap}
use Prim.Native.Nat.{ℕ, suc, ◌+◌, ◌-◌, ◌≤◌, ◌<◌}
use native.Mathlib.Omega.{arith}
use borrow.Author.Tests.{le-leb, eqb-true, eq-eqb}
use lib.Dec.{eqb, leb}
use lib.ListN.{length, get_or, take, drop, drop_of_length-le}
use lib.Seq.{drop-cons}
use Rattle.std.specs.Prelude.{Option, Some, None, Ok}
use Rattle.table_text.specs.Parts.{Parts, last, ended, in_front, parts, ended_parts}
use Rattle.table_text.specs.Reading.{Table, finished, malformed_at, same_bytes, line_then, lines_from, after_names, read_table, table_at, NamesRead, TableNames, may_hold, LineRead, RowRead}

same_bytes_lem : (xs ys : List ℕ) → same_bytes xs ys ≡ true → xs ≡ ys
unfolding same_bytes
same_bytes_lem [] [] e = refl
same_bytes_lem [] (y ∷ ys) e = cc
same_bytes_lem (x ∷ xs) [] e = cc
same_bytes_lem (x ∷ xs) (y ∷ ys) e =
    let both = (and-eq-true_iff (eqb x y) (same_bytes xs ys)).0 e in
    cc (eqb-true x y both.0, same_bytes_lem xs ys both.1)

bytes_same : (xs : List ℕ) → same_bytes xs xs ≡ true
unfolding same_bytes
bytes_same [] = refl
bytes_same (x ∷ xs) = rw (eq-eqb x x refl, bytes_same xs)

-- the names that were read are the table's
pub names_said : {A : Type 0} (line_of : List ℕ → Option A) (title text : List ℕ) (r : Option ℕ) → NamesRead title text r → TableNames title line_of text r
unfolding read_table
names_said line_of title text (Some at) found = (found.0, rw (found.1, bytes_same title))
names_said line_of title text None other = go (parts 10 text) refl
  where
    pick : (t : Bool) (line : List ℕ) (more : Parts) → parts 10 text ≡ ended line more → same_bytes line title ≡ t → cond t (lines_from line_of 2 more) (malformed_at 1) ≡ malformed_at 1
    pick true line more e same = absurd (other more (e ∙ ap (λ (first : List ℕ). ended first more) (same_bytes_lem line title same)))
    pick false line more e same = refl

    go : (p : Parts) → parts 10 text ≡ p → after_names title line_of p ≡ malformed_at 1
    go (last line) e = refl
    go (ended line more) e = pick (same_bytes line title) line more e refl

-- at its end a table is finished
pub table_end : {A : Type 0} (line_of : List ℕ → Option A) (text : List ℕ) (line at : ℕ) → length text ≤ at → table_at line_of text line at ≡ finished
unfolding lines_from parts
table_end line_of text line at h = rw (drop_of_length-le text h)

-- a line that may hold no row is malformed
pub line_malformed : {A : Type 0} (line_of : List ℕ → Option A) (text : List ℕ) (line at : ℕ) → at < length text → LineRead text line at None → table_at line_of text line at ≡ malformed_at line
unfolding parts in_front lines_from
line_malformed line_of text line at inside = rw (drop-cons text at 0 inside) (go (eqb (get_or text at 0) 10) (get_or text at 0) (parts 10 (drop (suc at) text)))
  where
    go : (t : Bool) (b : ℕ) (p : Parts) → may_hold line (cond t (ended [] p) (in_front b p)) ≡ false → lines_from line_of line (cond t (ended [] p) (in_front b p)) ≡ malformed_at line
    go true b p h = rw h
    go false b (last part) h = refl
    go false b (ended part more) h = rw h

module _ {A : Type 0} (line_of : List ℕ → Option A) (text : List ℕ) (line at end : ℕ) (found : LineRead text line at (Some end)) where
  said : table_at line_of text line at ≡ line_then line (line_of (take (end - at) (drop at text))) (table_at line_of text (line + 1) (end + 1))
  unfolding lines_from
  said = rw (found.3, le-leb line 2049 found.0)

  -- a line that may, and says none
  pub line_wrong : line_of (take (end - at) (drop at text)) ≡ None → table_at line_of text line at ≡ malformed_at line
  line_wrong e = rw e at said

  -- a line that says a row
  pub line_row : (a : A) → line_of (take (end - at) (drop at text)) ≡ Some a → RowRead line_of text line at a (end + 1)
  line_row a e = (found.0, omega (arith, found.1), omega (arith, found.2), rw e at said)

row-counted : {A : Type 0} (line : ℕ) (t : Bool) (said : Option A) (more : Table A) (left : ℕ) → (more.ending ≡ Ok tt → length more.rows ≡ left)
    → (cond t (line_then line said more) (malformed_at line)).ending ≡ Ok tt
    → length (cond t (line_then line said more) (malformed_at line)).rows ≡ suc left
row-counted line true (Some a) more left counted e = ap suc (counted e)
row-counted line true None more left counted e = absurd cc
row-counted line false said more left counted e = absurd cc

-- a well-formed table has a row for each line
pub rows-counted : {A : Type 0} (line_of : List ℕ → Option A) (line : ℕ) (p : Parts) → (lines_from line_of line p).ending ≡ Ok tt → length (lines_from line_of line p).rows ≡ ended_parts p
unfolding lines_from ended_parts
rows-counted line_of line (last []) e = refl
rows-counted line_of line (last (b ∷ bs)) e = absurd cc
rows-counted line_of line (ended text more) e = row-counted line (leb line 2049) (line_of text) (lines_from line_of (line + 1) more) (ended_parts more) (rows-counted line_of (line + 1) more) e

-- and one line more, that of its names
pub lines_counted : {A : Type 0} (title : List ℕ) (line_of : List ℕ → Option A) (text : List ℕ) → (read_table title line_of text).ending ≡ Ok tt → suc (length (read_table title line_of text).rows) ≡ ended_parts (parts 10 text)
unfolding read_table ended_parts
lines_counted title line_of text = go (parts 10 text)
  where
    pick : (t : Bool) (more : Parts) → (cond t (lines_from line_of 2 more) (malformed_at 1)).ending ≡ Ok tt → length (cond t (lines_from line_of 2 more) (malformed_at 1)).rows ≡ ended_parts more
    pick true more e = rows-counted line_of 2 more e
    pick false more e = absurd cc

    go : (p : Parts) → (after_names title line_of p).ending ≡ Ok tt → suc (length (after_names title line_of p).rows) ≡ ended_parts p
    go (last line) e = absurd cc
    go (ended line more) e = ap suc (pick (same_bytes line title) more e)
