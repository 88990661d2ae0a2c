-- Laws of a run of stores.
use mathlib.Core.List.{List, [], ◌∷◌, ◌++◌, append_assoc}
use mathlib.Core.Path.{◌≡◌, sym, ◌∙◌}
use Prim.Native.Nat.{ℕ, suc, ◌+◌, ◌≤◌}
use native.Mathlib.Nat.{add-zero, zero-add}
use native.Mathlib.Omega.{arith}
use borrow.Rule.Slice.PartMut.{put_mid}
use lib.ListN.{length, set, take, drop}
use lib.Seq.{drop-drop, sets, sets-eq}
use Rattle.lists.specs.Written.{written}

module _ {A : Type 0} where
  -- a second run that goes on where the first ends
  pub sets_append : (old : List A) (at : ℕ) (xs ys : List A) → sets (sets old at xs) (at + length xs) ys ≡ sets old at (xs ++ ys)
  sets_append old at [] ys = rw add-zero
  sets_append old at (x ∷ xs) ys =
      let place : at + suc (length xs) ≡ suc at + length xs = omega arith in
      rw place (sets_append (set old at x) (suc at) xs ys)

  -- a part that is copied over is such a run
  pub put_mid-sets : (at n : ℕ) (old xs : List A) → length xs ≡ n → at + n ≤ length old → put_mid at n old xs ≡ sets old at xs
  put_mid-sets at n old xs e fits =
      rw (← e, drop-drop (length xs) at old) (sym (append_assoc (take at old) xs (drop (at + length xs) old)) ∙ sym (sets-eq xs old at (rw e fits)))

  -- a run from the front
  pub sets_written : (xs old : List A) → length xs ≤ length old → sets old 0 xs ≡ written xs old
  sets_written xs old h = sets-eq xs old 0 (rw zero-add h) ∙ rw zero-add
