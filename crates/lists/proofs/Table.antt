-- A table's rule, proved at every entry by one test that is computed over the whole table.
use mathlib.Core.Bool.{Bool, true, false, cond}
use mathlib.Core.List.{List, [], ◌∷◌}
use mathlib.Core.Path.{sym, ◌∙◌, subst}
use Prim.Native.Nat.{ℕ, zero, suc, ◌+◌, ◌<◌}
use native.Mathlib.Nat.{add-zero, zero-add, add-suc, suc-add, le_of_suc-le-suc, not-suc-le-zero}
use lib.Dec.{T}
use lib.ListN.{length, get_or}

pub T_left : (a b : Bool) → T (cond a b false) → T a
T_left true b t = tt
T_left false b t = t

pub T_right : (a b : Bool) → T (cond a b false) → T b
T_right true b t = t
T_right false b t = absurd t

module _ {A : Type 0} (rule : ℕ → A → Bool) where
  -- the rule holds of each entry and its place, counted from i
  abbrev pub every_place : ℕ → List A → Bool
  every_place i [] = true
  every_place i (x ∷ xs) = cond (rule i x) (every_place (suc i) xs) false

  every_place_from : (xs : List A) (d : A) (i : ℕ) → T (every_place i xs) → (k : ℕ) → k < length xs → T (rule (i + k) (get_or xs k d))
  every_place_from [] d i t k h = absurd (not-suc-le-zero h)
  every_place_from (x ∷ xs) d i t zero h = rw add-zero (T_left (rule i x) (every_place (suc i) xs) t)
  every_place_from (x ∷ xs) d i t (suc k) h =
      subst (λ (m : ℕ). T (rule m (get_or xs k d))) (suc-add i k ∙ sym (add-suc i k))
      (every_place_from xs d (suc i) (T_right (rule i x) (every_place (suc i) xs) t) k (le_of_suc-le-suc h))

  pub every_place_at : (xs : List A) (d : A) → T (every_place 0 xs) → (k : ℕ) → k < length xs → T (rule k (get_or xs k d))
  every_place_at xs d t k h = rw zero-add at (every_place_from xs d 0 t k h)
