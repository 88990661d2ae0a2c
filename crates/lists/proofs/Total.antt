-- Laws of a sum over a list.
use mathlib.Core.Bool.{Bool, true, false, cond}
use mathlib.Core.List.{List, [], ◌∷◌, ◌++◌, map}
use mathlib.Core.Path.{◌≡◌, refl, sym, ◌∙◌, ap}
use Prim.Native.Nat.{ℕ, zero, suc, ◌+◌, ◌≤◌, ◌<◌}
use native.Mathlib.Numerals.{add-one}
use native.Mathlib.Omega.{arith}
use lib.ListN.{length, take, get_or}
use lib.Seq.{take-suc}
use Rattle.lists.specs.Tabulate.{tabulate}
use Rattle.std.specs.List.{filter, sum_by}
use Rattle.std.proofs.lemmas.List.Recursion.{is_sum_by}
use Rattle.lists.specs.Total.{total}
use Rattle.lists.proofs.Tabulate.{tabulate_get_d}

module _ {A : Type 0} (f : A → ℕ) where
  pub total-append : (xs ys : List A) → total f (xs ++ ys) ≡ total f xs + total f ys
  unfolding total
  total-append [] ys = omega arith
  total-append (x ∷ xs) ys = omega (arith, total-append xs ys)

  -- one element more
  pub total_more : (xs : List A) (i : ℕ) (d : A) → i < length xs → total f (take (i + 1) xs) ≡ total f (take i xs) + f (get_or xs i d)
  unfolding total
  total_more xs i d h = rw (add-one, take-suc xs i d, total-append) (omega arith)

  -- at most one for each element
  pub total_few : (xs : List A) → ((x : A) → f x ≤ 1) → total f xs ≤ length xs
  unfolding total
  total_few [] few = omega arith
  total_few (x ∷ xs) few = omega (arith, few x, total_few xs few)

  -- a sum over those that meet a test
  pub total-filter : (test : A → Bool) (xs : List A) → total f (filter test xs) ≡ total (λ x. cond (test x) (f x) 0) xs
  unfolding total
  total-filter test [] = refl
  total-filter test (x ∷ xs) = go (test x) (total-filter test xs)
    where
      go : (b : Bool) → total f (filter test xs) ≡ total (λ y. cond (test y) (f y) 0) xs → total f (cond b (x ∷ filter test xs) (filter test xs)) ≡ cond b (f x) 0 + total (λ y. cond (test y) (f y) 0) xs
      go true e = omega arith
      go false e = omega arith

-- a chain's sum is a fold from the front
pub total_is_sum_by : {A : Type 0} (f : A → ℕ) (xs : List A) → total f xs ≡ sum_by f xs
unfolding total
total_is_sum_by f xs = is_sum_by (total f) f refl (λ x rest. refl) xs

pub total_ones : {A : Type 0} (xs : List A) → total (λ x. 1) xs ≡ length xs
unfolding total
total_ones [] = refl
total_ones (x ∷ xs) = omega (arith, total_ones xs)

pub total-map : {A B : Type 0} (f : B → ℕ) (g : A → B) (xs : List A) → total f (map g xs) ≡ total (λ x. f (g x)) xs
unfolding total
total-map f g [] = refl
total-map f g (x ∷ xs) = ap (λ (n : ℕ). f (g x) + n) (total-map f g xs)

-- functions that agree on each element sum alike
pub total-same : {A : Type 0} (f g : A → ℕ) (d : A) (xs : List A) → ((i : ℕ) → i < length xs → f (get_or xs i d) ≡ g (get_or xs i d)) → total f xs ≡ total g xs
unfolding total
total-same f g d [] same = refl
total-same f g d (x ∷ xs) same = omega (arith, same 0 (omega arith), total-same f g d xs (λ i h. same (suc i) (omega arith)))

-- a sum of sums
pub total-plus : (f g : ℕ → ℕ) (n : ℕ) → total (λ x. x) (tabulate (λ i. f i + g i) n) ≡ total (λ x. x) (tabulate f n) + total (λ x. x) (tabulate g n)
unfolding tabulate total
total-plus f g zero = refl
total-plus f g (suc n) =
    rw (total-append (λ x. x) (tabulate (λ i. f i + g i) n), total-append (λ x. x) (tabulate f n), total-append (λ x. x) (tabulate g n))
    (omega (arith, total-plus f g n))

-- n numbers, read place by place
pub total_places : (xs : List ℕ) (n : ℕ) → length xs ≡ n → total (λ x. x) (tabulate (λ i. get_or xs i 0) n) ≡ total (λ x. x) xs
total_places xs n e = ap (total (λ x. x)) (ap (tabulate (λ i. get_or xs i 0)) (sym e) ∙ tabulate_get_d xs 0)
