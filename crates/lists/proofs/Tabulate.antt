-- Laws of tabulating.
use mathlib.Core.List.{List, [], ◌∷◌, ◌++◌}
use mathlib.Core.Logic.{⊎_elim}
use mathlib.Core.Path.{◌≡◌, refl, sym, ◌∙◌, subst}
use Prim.Native.Nat.{ℕ, zero, suc, ◌+◌, ◌≤◌, ◌<◌}
use native.Mathlib.Decide.{ℕ_discrete}
use native.Mathlib.Nat.{eq-or-lt_of_le, le_of_suc-le-suc, not-suc-le-zero}
use native.Mathlib.Numerals.{add-one}
use native.Mathlib.Omega.{arith}
use lib.ListN.{length, get_or, set, take, drop, length-append, length-drop, length-set, length-take, get_or-append}
use lib.Seq.{get_or_at, get_or-set_same, get_or-set_other, get_or-take, get_or-drop, ext_get_or}
use Rattle.lists.specs.Tabulate.{tabulate}
use Rattle.lists.specs.Written.{written}
use Rattle.lists.proofs.Written.{written_more, get_d-written_beyond}

module _ {A : Type 0} (f : ℕ → A) where
  pub length-tabulate : (n : ℕ) → length (tabulate f n) ≡ n
  unfolding tabulate
  length-tabulate zero = refl
  length-tabulate (suc n) = simp (length-append, length-tabulate n, add-one)

  -- a column that is tabulated from the front, one store a turn
  pub tabulate_more : (old : List A) (n : ℕ) → n < length old → set (written (tabulate f n) old) n (f n) ≡ written (tabulate f (n + 1)) old
  unfolding tabulate
  tabulate_more old n h = rw (add-one) (subst (λ (k : ℕ). set (written (tabulate f n) old) k (f n) ≡ written (tabulate f n ++ (f n ∷ [])) old) (length-tabulate n) (written_more (tabulate f n) old (f n) (rw (length-tabulate n) h)))

  -- the same of a column and a value that are known by equations
  pub tabulate_put : (old : List A) {col : List A} {v : A} (n : ℕ) → n < length old
      → col ≡ written (tabulate f n) old
      → v ≡ f n
      → set col n v ≡ written (tabulate f (n + 1)) old
  tabulate_put old n h e g = rw (e, g) (tabulate_more old n h)

  -- the next place of such a column is as it was
  pub tabulate-next : (old : List A) {col : List A} (n : ℕ) (d : A) → col ≡ written (tabulate f n) old → get_or col n d ≡ get_or old n d
  tabulate-next old n d e = rw e (get_d-written_beyond (tabulate f n) old n d (omega (arith, length-tabulate n)))

  pub get_d_tabulate : (n i : ℕ) (d : A) → i < n → get_or (tabulate f n) i d ≡ f i
  unfolding tabulate
  get_d_tabulate zero i d h = absurd (not-suc-le-zero h)
  get_d_tabulate (suc n) i d h =
      ⊎_elim (λ e. rw e (get_or_at (tabulate f n) (f n) [] d n (length-tabulate n)))
      (λ l. get_or-append (tabulate f n) (f n ∷ []) d i (rw (length-tabulate n) l) ∙ get_d_tabulate n i d l)
      (eq-or-lt_of_le (le_of_suc-le-suc h))

-- the places of a list, one by one
pub tabulate_get_d : {A : Type 0} (xs : List A) (d : A) → tabulate (λ i. get_or xs i d) (length xs) ≡ xs
tabulate_get_d xs d =
    let same = length-tabulate (λ i. get_or xs i d) (length xs) in
    ext_get_or d (tabulate (λ i. get_or xs i d) (length xs)) xs same (λ i h. get_d_tabulate (λ k. get_or xs k d) (length xs) i d (rw same at h))

-- a list of n elements, each of which is what the rule says of its place
pub tabulate_by_all : {A : Type 0} (f : ℕ → A) (xs : List A) (n : ℕ) (d : A) → length xs ≡ n → ((k : ℕ) → k < n → get_or xs k d ≡ f k) → xs ≡ tabulate f n
tabulate_by_all f xs n d e each =
    ext_get_or d xs (tabulate f n) (e ∙ sym (length-tabulate f n)) (λ k h. let room : k < n = omega (arith, e) in each k room ∙ sym (get_d_tabulate f n k d room))

-- a part of a list, each place of which is what the rule says
pub tabulate-part : {A : Type 0} (f : ℕ → A) (xs : List A) (from n : ℕ) (d : A) → from + n ≤ length xs
    → ((k : ℕ) → k < n → get_or xs (from + k) d ≡ f k)
    → take n (drop from xs) ≡ tabulate f n
tabulate-part f xs from n d fits each =
    tabulate_by_all f (take n (drop from xs)) n d (simp (length-take, length-drop) (omega arith)) (λ k h. rw (get_or-take n (drop from xs) k d h, get_or-drop from xs k d) (each k h))

-- a column that is written place by place, when every place is
pub tabulate-all : {A : Type 0} (xs old : List A) (d : A) {col : List A} {i : ℕ} → i ≡ length xs
    → col ≡ written (tabulate (λ k. get_or xs k d) i) old
    → col ≡ written xs old
tabulate-all xs old d end e = rw (e, end, tabulate_get_d xs d)

-- a rule that differs from another at one place
pub set-tabulate : {A : Type 0} (f g : ℕ → A) (n i : ℕ) (a : A) → i < n → g i ≡ a → ((k : ℕ) → (k ≡ i → ⊥) → g k ≡ f k) → set (tabulate f n) i a ≡ tabulate g n
set-tabulate f g n i a h here others =
    ext_get_or a (set (tabulate f n) i a) (tabulate g n) (length-set (tabulate f n) i a ∙ length-tabulate f n ∙ sym (length-tabulate g n))
    (λ k within.
    let room : k < n = omega (arith, length-set (tabulate f n) i a, length-tabulate f n) in
    by_place k room (ℕ_discrete k i))
  where
    by_place : (k : ℕ) → k < n → Dec (k ≡ i) → get_or (set (tabulate f n) i a) k a ≡ get_or (tabulate g n) k a
    by_place k room (yes e) = rw e (get_or-set_same (tabulate f n) i a a (rw (length-tabulate f n) h) ∙ sym (get_d_tabulate g n i a h ∙ here))
    by_place k room (no differ) = get_or-set_other (tabulate f n) i k a a differ ∙ get_d_tabulate f n k a room ∙ sym (get_d_tabulate g n k a room ∙ others k differ)

-- two rules that agree below n
pub tabulate-same : {A : Type 0} (f g : ℕ → A) (n : ℕ) → ((i : ℕ) → i < n → f i ≡ g i) → tabulate f n ≡ tabulate g n
unfolding tabulate
tabulate-same f g zero same = refl
tabulate-same f g (suc n) same = rw (tabulate-same f g n (λ i h. same i (omega arith)), same n (omega arith))
