-- Laws of a column whose first places are written.
use mathlib.Core.List.{List, [], ◌∷◌, ◌++◌, append-nil}
use mathlib.Core.Path.{◌≡◌, sym, ◌∙◌, ap}
use Prim.Native.Nat.{ℕ, suc, ◌+◌, ◌-◌, ◌≤◌, ◌<◌}
use native.Mathlib.Numerals.{add-one}
use native.Mathlib.Omega.{arith}
use lib.ListN.{length, get_or, set, take, drop, length-append, length-drop, length-set, drop_of_length-le}
use lib.Seq.{set-append_seam, drop-cons, append_snoc, drop-append-add, drop-drop, take_at, set-append_left, get_or-append-add, get_or-drop}
use Rattle.lists.specs.Written.{written}

module _ {A : Type 0} where
  -- one place more
  pub written_more : (xs old : List A) (a : A) → length xs < length old → set (written xs old) (length xs) a ≡ written (xs ++ (a ∷ [])) old
  written_more xs old a h =
      rw (drop-cons old (length xs) a, set-append_seam, length-append, add-one) (sym (append_snoc xs a (drop (suc (length xs)) old)))

  pub length-written : (xs old : List A) → length xs ≤ length old → length (written xs old) ≡ length old
  length-written xs old h = simp (length-append, length-drop) (omega arith)

  -- what is written over by more is gone
  pub written_again : (xs ys old : List A) → length xs ≤ length ys → written ys (written xs old) ≡ written ys old
  written_again xs ys old h =
      let more : length ys ≡ length xs + (length ys - length xs) = omega arith in
      ap {B = List A} (λ rest. ys ++ rest)
      (rw more (drop-append-add xs (drop (length xs) old) (length ys - length xs) ∙ drop-drop (length ys - length xs) (length xs) old))

  -- nothing is left of a column that is written whole
  pub written-whole : (xs old : List A) → length xs ≡ length old → written xs old ≡ xs
  written-whole xs old e = rw (drop_of_length-le old {i = length xs} (omega arith)) (append-nil xs)

  pub take-written : (xs old : List A) (n : ℕ) → length xs ≡ n → take n (written xs old) ≡ xs
  take-written xs old n e = take_at xs (drop (length xs) old) n e

  -- the part that a count says was written
  pub take_count : (xs old col : List A) (n : ℕ) → n ≡ length xs → col ≡ written xs old → take n col ≡ xs
  take_count xs old col n e f = rw f (take-written xs old n (sym e))

  -- a place beyond those that are written
  pub get_d-written_beyond : (xs old : List A) (i : ℕ) (d : A) → length xs ≤ i → get_or (written xs old) i d ≡ get_or old i d
  get_d-written_beyond xs old i d h =
      let place : i ≡ length xs + (i - length xs) = omega arith in
      rw place (get_or-append-add xs (drop (length xs) old) (i - length xs) d ∙ get_or-drop (length xs) old (i - length xs) d)

  -- a place that is written is written again
  pub set-written : (xs old : List A) (i : ℕ) (a : A) → i < length xs → set (written xs old) i a ≡ written (set xs i a) old
  set-written xs old i a h = rw (set-append_left xs (drop (length xs) old) i a, length-set xs i a)
