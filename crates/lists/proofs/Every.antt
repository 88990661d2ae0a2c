-- Laws of a test that every entry of a list meets.
use mathlib.Core.Bool.{Bool, true, false}
use mathlib.Core.List.{List, [], ◌∷◌, ◌++◌}
use mathlib.Core.Path.{◌≡◌, refl, sym, ◌∙◌}
use Prim.Native.Nat.{ℕ, zero, suc, ◌+◌, ◌≤◌, ◌<◌}
use native.Mathlib.Numerals.{add-one}
use native.Mathlib.Omega.{arith}
use lib.ListN.{length, get_or, drop, drop_of_length-le}
use lib.Seq.{drop-cons}
use Rattle.std.specs.List.{list_all}
use Rattle.std.proofs.lemmas.Bool.{and_parts}
use Rattle.std.proofs.lemmas.List.Folds.{list_all-append}

-- the entry at a place meets it
pub list_all_at : {A : Type 0} (test : A → Bool) (xs : List A) (d : A) → list_all test xs ≡ true → (k : ℕ) → k < length xs → test (get_or xs k d) ≡ true
list_all_at test [] d h k below = absurd (omega arith)
list_all_at test (x ∷ xs) d h zero below = (and_parts (test x) (list_all test xs) h).0
list_all_at test (x ∷ xs) d h (suc k) below = list_all_at test xs d (and_parts (test x) (list_all test xs) h).1 k (omega arith)

-- so does what is read at any place, where the default meets it
pub list_all_anywhere : {A : Type 0} (test : A → Bool) (xs : List A) (d : A) → test d ≡ true → list_all test xs ≡ true → (k : ℕ) → test (get_or xs k d) ≡ true
list_all_anywhere test [] d e h k = e
list_all_anywhere test (x ∷ xs) d e h zero = (and_parts (test x) (list_all test xs) h).0
list_all_anywhere test (x ∷ xs) d e h (suc k) = list_all_anywhere test xs d e (and_parts (test x) (list_all test xs) h).1 k

-- every entry meets it where each place does
pub list_all_of : {A : Type 0} (test : A → Bool) (xs : List A) (d : A) → ((k : ℕ) → k < length xs → test (get_or xs k d) ≡ true) → list_all test xs ≡ true
list_all_of test [] d holds = refl
list_all_of test (x ∷ xs) d holds = rw (holds 0 (omega arith)) (list_all_of test xs d (λ k h. holds (suc k) (omega arith)))

-- the entries of both parts of a list meet it
pub list_all-parts : {A : Type 0} (test : A → Bool) (xs ys : List A) → list_all test (xs ++ ys) ≡ true → (list_all test xs ≡ true) × (list_all test ys ≡ true)
list_all-parts test xs ys e = and_parts (list_all test xs) (list_all test ys) (sym (list_all-append test xs ys) ∙ e)

-- a loop that looks for an entry that fails a test: all that were passed meet it, so those left decide
module _ {A : Type 0} (test : A → Bool) (xs : List A) (i : ℕ) (d : A) (so_far : list_all test xs ≡ list_all test (drop i xs)) where
  pub list_all_fails : i < length xs → test (get_or xs i d) ≡ false → list_all test xs ≡ false
  list_all_fails h e = so_far ∙ rw (drop-cons xs i d h, e)

  pub list_all-next : i < length xs → test (get_or xs i d) ≡ true → list_all test xs ≡ list_all test (drop (i + 1) xs)
  list_all-next h e = so_far ∙ rw (add-one, drop-cons xs i d h, e)

  pub list_all-passed : length xs ≤ i → list_all test xs ≡ true
  list_all-passed h = so_far ∙ rw (drop_of_length-le xs {i = i} h)
