-- Laws of a line, written part by part.
use Rattle.std.proofs.Common.{◌≡◌, ℕ, ◌+◌, ◌-◌, ◌^◌, ◌<◌, ◌≤◌, arith, List, [], ◌∷◌, ◌++◌, append_assoc, append-nil, length, get_or, take, drop}
use borrow.Rule.Slice.PartMut.{mid_of, put_mid}
use lib.ListN.{length-drop, drop_of_length-le}
use lib.Seq.{sets, sets-eq, take_all, drop-drop}
use Rattle.std.proofs.lemmas.List.{take_more}
use Rattle.std.proofs.lemmas.List.Concat.{flat_map-append}
use Rattle.table_text.specs.Decimal.{decimal}
use Rattle.table_text.specs.Page.{Appends}
use Rattle.table_text.specs.declared.page.Page.{Page}
use Rattle.table_text.proofs.Decimals.{length-decimal}
use Rattle.table_text.proofs.Pages.{appends_then}
use Rattle.answer_text.specs.Line.{fields_by}

-- one more field is written
pub field_appended : {A : Type 0} (number : A → ℕ) (values : List A) (i : ℕ) (x : A) {old mid new : Page} → i < length values → x ≡ get_or values i x
    → Appends (fields_by number (take i values)) old mid → Appends (32 ∷ decimal (number x)) mid new → Appends (fields_by number (take (i + 1) values)) old new
unfolding fields_by
field_appended number values i x h e before next =
    let field = λ (y : _). 32 ∷ decimal (number y) in
    rw (take_more values i x h, flat_map-append field (take i values) (get_or values i x ∷ []), append-nil, ← e) (appends_then (fields_by number (take i values)) (field x) before next)

-- how many digits a number has, by its bits
pub byte_digits : (n : ℕ) → n < 2 ^ 8 → length (decimal n) ≤ 3
byte_digits n h = length-decimal 2 n (omega arith)

pub short_digits : (n : ℕ) → n < 2 ^ 16 → length (decimal n) ≤ 5
short_digits n h = length-decimal 4 n (omega arith)

pub word_digits : (n : ℕ) → n < 2 ^ 32 → length (decimal n) ≤ 10
word_digits n h = length-decimal 9 n (omega arith)

pub long_digits : (n : ℕ) → n < 2 ^ 64 → length (decimal n) ≤ 20
long_digits n h = length-decimal 19 n (omega arith)

-- a text copied to the front of the part that begins at a place is stored there
pub copied_stored : (text old new : List ℕ) (to : ℕ) → to + length text ≤ length old → new ≡ text ++ drop (length text) (mid_of to (length old - to) old)
    → put_mid to (length old - to) old new ≡ sets old to text
copied_stored text old new to h e =
    let whole : mid_of to (length old - to) old ≡ drop to old = take_all (length old - to) (drop to old) (simp length-drop (omega arith)) in
    let after : drop (length old - to) (drop to old) ≡ [] = drop_of_length-le (drop to old) {i = length old - to} (simp length-drop (omega arith)) in
    rw (e, whole, after, append-nil, drop-drop, sets-eq text old to h, append_assoc)
