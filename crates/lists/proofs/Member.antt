-- Laws of the numbers in a list.
use mathlib.Core.Bool.{true, or-false, or-true}
use mathlib.Core.List.{List, [], ◌∷◌, ◌++◌}
use mathlib.Core.Path.{◌≡◌, refl}
use Prim.Native.Nat.{ℕ}
use borrow.Author.Tests.{eq-eqb, ne_eqb}
use Rattle.std.proofs.lemmas.List.Folds.{list_any-append}
use Rattle.lists.specs.Member.{is_in}

-- a list with one number more
pub is_in_here : (i : ℕ) (js : List ℕ) → is_in i (js ++ (i ∷ [])) ≡ true
unfolding is_in
is_in_here i js = rw (list_any-append, eq-eqb i i refl) (or-true (is_in i js))

pub is_in_other : (k i : ℕ) (js : List ℕ) → (k ≡ i → ⊥) → is_in k (js ++ (i ∷ [])) ≡ is_in k js
unfolding is_in
is_in_other k i js differ = rw (list_any-append, ne_eqb k i differ) (or-false (is_in k js))
