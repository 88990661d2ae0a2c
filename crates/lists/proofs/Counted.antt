-- Counting places or numbers is summing ones over a list.
use mathlib.Core.Bool.{Bool, cond, ◌&&◌}
use mathlib.Core.List.{List, [], ◌∷◌}
use mathlib.Core.Path.{◌≡◌, refl, ◌∙◌, ap}
use Prim.Native.Nat.{ℕ, zero, suc, ◌+◌, ◌≤◌, ◌<◌}
use native.Mathlib.Decide.{dec_lt, ℕ_discrete}
use native.Mathlib.Nat.{add-zero}
use native.Mathlib.Numerals.{add-one}
use native.Mathlib.Omega.{arith}
use borrow.Author.Tests.{eq-eqb, ne_eqb, lt-ltb, le-ltb, le-leb, lt-leb}
use lib.Dec.{eqb, leb, ltb}
use lib.ListN.{length, get_or, take}
use lib.Seq.{take_all}
use Rattle.lists.specs.Count.{count_below}
use Rattle.lists.specs.Tabulate.{tabulate}
use Rattle.lists.specs.Total.{total}
use Rattle.lists.proofs.Count.{count-suc}
use Rattle.lists.proofs.Total.{total-append, total_more, total-plus}

-- the places of a list that meet a test are as many as its elements that do
front_places : {A : Type 0} (p : A → Bool) (xs : List A) (d : A) (n : ℕ) → n ≤ length xs → count_below (λ k. p (get_or xs k d)) n ≡ total (λ x. cond (p x) 1 0) (take n xs)
unfolding count_below total
front_places p xs d zero h = refl
front_places p xs d (suc n) h =
    omega (arith, count-suc (λ k. p (get_or xs k d)) n, rw add-one at (total_more (λ x. cond (p x) 1 0) xs n d h), front_places p xs d n (omega arith))

pub count_places : {A : Type 0} (p : A → Bool) (xs : List A) (d : A) → count_below (λ k. p (get_or xs k d)) (length xs) ≡ total (λ x. cond (p x) 1 0) xs
count_places p xs d = front_places p xs d (length xs) (omega arith) ∙ ap (total (λ x. cond (p x) 1 0)) (take_all (length xs) xs (omega arith))

-- a number is one of the n numbers from one on, or none of them
abbrev pub is_among : (from n x : ℕ) → Bool
is_among from n x = leb from x && ltb x (from + n)

one_among : (from n x : ℕ) → total (λ k. k) (tabulate (λ k. cond (eqb x (from + k)) 1 0) n) ≡ cond (is_among from n x) 1 0
unfolding tabulate total
one_among from zero x = go (dec_lt x from)
  where
    go : Dec (x < from) → ◌≡◌ {A = ℕ} 0 (cond (is_among from 0 x) 1 0)
    go (yes below) = rw (lt-leb from x below)
    go (no above) = rw (add-zero, le-ltb x from (omega (arith, above)), le-leb from x (omega (arith, above)))
one_among from (suc n) x =
    rw (total-append (λ k. k) (tabulate (λ k. cond (eqb x (from + k)) 1 0) n))
    (omega (arith, one_among from n x, go (dec_lt x from) (dec_lt x (from + n)) (ℕ_discrete x (from + n))))
  where
    go : Dec (x < from) → Dec (x < from + n) → Dec (x ≡ from + n) → cond (is_among from n x) 1 0 + cond (eqb x (from + n)) 1 0 ≡ cond (is_among from (suc n) x) 1 0
    go (yes below) before here = rw (lt-leb from x below, ne_eqb x (from + n) (λ e. omega arith))
    go (no above) (yes before) here =
        rw (le-leb from x (omega (arith, above)), lt-ltb x (from + n) before, lt-ltb x (from + suc n) (omega arith), ne_eqb x (from + n) (λ e. omega arith))
    go (no above) (no before) (yes here) =
        rw (le-leb from x (omega (arith, above)), le-ltb x (from + n) (omega (arith, before)), lt-ltb x (from + suc n) (omega arith), eq-eqb x (from + n) here)
    go (no above) (no before) (no apart) =
        rw (le-leb from x (omega (arith, above)), le-ltb x (from + n) (omega (arith, before)), le-ltb x (from + suc n) (omega (arith, before, apart)), ne_eqb x (from + n) apart)

no_counts : (n : ℕ) → total (λ k. k) (tabulate (λ k. 0) n) ≡ 0
unfolding tabulate total
no_counts zero = refl
no_counts (suc n) = rw (total-append (λ k. k) (tabulate (λ k. 0) n)) (omega (arith, no_counts n))

-- the counts of the n numbers from one on sum to how many elements are among them
pub counts_among : (from n : ℕ) (xs : List ℕ) → total (λ k. k) (tabulate (λ k. total (λ x. cond (eqb x (from + k)) 1 0) xs) n) ≡ total (λ x. cond (is_among from n x) 1 0) xs
unfolding total
counts_among from n [] = no_counts n
counts_among from n (x ∷ xs) =
    omega (
      arith,
      one_among from n x,
      counts_among from n xs,
      total-plus (λ k. cond (eqb x (from + k)) 1 0) (λ k. total (λ y. cond (eqb y (from + k)) 1 0) xs) n,
    )
