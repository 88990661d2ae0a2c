-- Laws of the numbers that meet a test.
use mathlib.Core.Bool.{Bool, true, false, cond, false≢true}
use mathlib.Core.List.{List, [], ◌∷◌}
use mathlib.Core.Logic.{◌⊎◌, inl, inr}
use mathlib.Core.Path.{◌≡◌, refl, sym, ◌∙◌, ap}
use Prim.Native.Nat.{ℕ, zero, suc, ◌+◌, ◌-◌, ◌≤◌, ◌<◌, zero-le, suc-le-suc}
use native.Mathlib.Nat.{add-zero, eq-or-lt_of_le, le_of_suc-le-suc, not-suc-le-zero}
use native.Mathlib.Numerals.{add-one}
use native.Mathlib.Omega.{arith}
use lib.ListN.{length, get_or}
use Rattle.lists.specs.Count.{count_below}
use Rattle.lists.specs.Numbers.{numbers_from}
use Rattle.lists.proofs.Count.{count-suc}

module _ (test : ℕ → Bool) where
  -- a number that meets the test, with those after it
  pub numbers_yes : (n i : ℕ) → i < n → test i ≡ true → numbers_from test i (n - i) ≡ i ∷ numbers_from test (i + 1) (n - (i + 1))
  unfolding numbers_from
  numbers_yes n i h meets =
      let more : n - i ≡ suc (n - (i + 1)) = omega arith in
      rw (more, meets, add-one)

  pub numbers_no : (n i : ℕ) → i < n → test i ≡ false → numbers_from test i (n - i) ≡ numbers_from test (i + 1) (n - (i + 1))
  unfolding numbers_from
  numbers_no n i h fails =
      let more : n - i ≡ suc (n - (i + 1)) = omega arith in
      rw (more, fails, add-one)

  pub numbers_end : (n i : ℕ) → n ≤ i → numbers_from test i (n - i) ≡ []
  unfolding numbers_from
  numbers_end n i h =
      let none : n - i ≡ 0 = omega arith in
      rw none

  -- the first of the numbers, where it meets the test, and those after it
  pub numbers_first : (i count : ℕ) → numbers_from test i (suc count) ≡ cond (test i) (i ∷ numbers_from test (suc i) count) (numbers_from test (suc i) count)
  unfolding numbers_from
  numbers_first i count = rw add-one

  -- a number of the list meets the test and is within the bounds
  pub numbers_at : (i count k : ℕ) → k < length (numbers_from test i count) → let x = get_or (numbers_from test i count) k 0 in (i ≤ x) × (x < i + count) × (test x ≡ true)
  unfolding numbers_from
  numbers_at i zero k h = absurd (not-suc-le-zero h)
  numbers_at i (suc count) k h = rw numbers_first (go (test i) refl k (rw numbers_first at h) (numbers_at (suc i) count))
    where
      rest : List ℕ
      rest = numbers_from test (suc i) count

      go : (b : Bool) → test i ≡ b → (k : ℕ) → k < length (cond b (i ∷ rest) rest) → ((k : ℕ) → k < length rest → let x = get_or rest k 0 in (suc i ≤ x) × (x < suc i + count) × (test x ≡ true)) → let x = get_or (cond b (i ∷ rest) rest) k 0 in (i ≤ x) × (x < i + suc count) × (test x ≡ true)
      go true e zero h later = (omega arith, omega arith, e)
      go true e (suc k) h later = let t = later k (le_of_suc-le-suc h) in (omega arith, omega arith, t.2)
      go false e k h later = let t = later k h in (omega arith, omega arith, t.2)

  -- a number within the bounds that meets the test is in the list
  pub numbers_has : (i count x : ℕ) → i ≤ x → x < i + count → test x ≡ true → (k : ℕ) × (k < length (numbers_from test i count)) × (get_or (numbers_from test i count) k 0 ≡ x)
  unfolding numbers_from
  numbers_has i zero x from below meets = absurd (omega arith)
  numbers_has i (suc count) x from below meets =
      rw numbers_first (go (test i) refl (λ above. numbers_has (suc i) count x above (omega arith) meets) (eq-or-lt_of_le from))
    where
      rest : List ℕ
      rest = numbers_from test (suc i) count

      go : (b : Bool) → test i ≡ b → (i < x → (k : ℕ) × (k < length rest) × (get_or rest k 0 ≡ x)) → (i ≡ x) ⊎ (i < x) → (k : ℕ) × (k < length (cond b (i ∷ rest) rest)) × (get_or (cond b (i ∷ rest) rest) k 0 ≡ x)
      go true e later (inl same) = (0, suc-le-suc zero-le, same)
      go true e later (inr above) = let t = later above in (suc t.0, suc-le-suc t.1, t.2)
      go false e later (inl same) = absurd (false≢true (sym e ∙ ap test same ∙ meets))
      go false e later (inr above) = later above

  -- what follows the first number of the list
  pub numbers_after : (i count a : ℕ) (rest : List ℕ) → numbers_from test i count ≡ a ∷ rest → rest ≡ numbers_from test (suc a) (i + count - suc a)
  unfolding numbers_from
  numbers_after i zero a rest e = let apart : ◌≡◌ {A = ℕ} 0 1 = cc in absurd (omega arith)
  numbers_after i (suc count) a rest e = go (test i) (rw numbers_first at e) (numbers_after (suc i) count a rest)
    where
      more : suc i + count ≡ i + suc count
      more = omega arith

      later : List ℕ
      later = numbers_from test (suc i) count

      go : (b : Bool) → cond b (i ∷ later) later ≡ a ∷ rest → (later ≡ a ∷ rest → rest ≡ numbers_from test (suc a) (suc i + count - suc a)) → rest ≡ numbers_from test (suc a) (i + suc count - suc a)
      go true e after =
          let same : a ≡ i = cc in
          let left : i + suc count - suc i ≡ count = omega arith in
          rw (same, left) (cc)
      go false e after = rw more at (after e)

  pub length_numbers : (i count : ℕ) → count_below test i + length (numbers_from test i count) ≡ count_below test (i + count)
  unfolding numbers_from
  length_numbers i zero = simp add-zero
  length_numbers i (suc count) = rw (numbers_first, ← more) (go (test i) refl (length_numbers (suc i) count))
    where
      more : suc i + count ≡ i + suc count
      more = omega arith

      go : (b : Bool) → test i ≡ b → count_below test (suc i) + length (numbers_from test (suc i) count) ≡ count_below test (suc i + count)
          → count_below test i + length (cond b (i ∷ numbers_from test (suc i) count) (numbers_from test (suc i) count)) ≡ count_below test (suc i + count)
      go true e later = let here = rw e at (count-suc test i) in omega arith
      go false e later = let here = rw e at (count-suc test i) in omega arith
