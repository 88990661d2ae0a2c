-- The earliest place of the most: found by going through the places, and one of them.
use mathlib.Core.List.{List, [], ◌∷◌, map}
use mathlib.Core.Path.{◌≡◌, sym, ◌∙◌, ap}
use Prim.Native.Nat.{ℕ, zero, suc, ◌+◌, ◌≤◌, ◌<◌, zero-le, suc-le-suc, max}
use native.Mathlib.Decide.{dec_le}
use native.Mathlib.Nat.{le_antisymm, le_of_suc-le-suc, not-suc-le-zero}
use native.Mathlib.Omega.{arith}
use borrow.Author.Count.{below_more}
use borrow.Author.Tests.{eq-eqb, ne_eqb}
use lib.Dec.{eqb}
use lib.ListN.{length, get_or, length-map}
use Rattle.std.proofs.lemmas.Bool.{cond_both}
use Rattle.std.proofs.lemmas.List.{get_or-map}
use Rattle.codec_sides.specs.Side.{most, place_of, place_of_most, longest_of, reference_bases_of}

-- of the first k places, best has most, and is the earliest
abbrev pub Leads : (ℕ → ℕ) → ℕ → ℕ → Type 0
Leads f best k = (best < k) × ((j : ℕ) → j < k → f j ≤ f best) × ((j : ℕ) → j < best → f j < f best)

module _ (f : ℕ → ℕ) (best k : ℕ) (leads : Leads f best k) where
  pub leads_new : f best < f k → Leads f k (k + 1)
  leads_new h = (
    omega arith,
    below_more (λ j. f j ≤ f k) k (λ j below. omega (arith, leads.1 j below)) (omega arith),
    λ j below. omega (arith, leads.1 j below),
  )

  pub leads_still : f k ≤ f best → Leads f best (k + 1)
  leads_still h = (omega arith, below_more (λ j. f j ≤ f best) k leads.1 h, leads.2)

most_least : (xs : List ℕ) (bound : ℕ) → ((j : ℕ) → j < length xs → get_or xs j 0 ≤ bound) → most xs ≤ bound
unfolding most
most_least [] bound h = zero-le
most_least (x ∷ xs) bound h = omega (arith, h 0 (suc-le-suc zero-le), most_least xs bound (λ j below. h (suc j) (suc-le-suc below)))

most_has : (xs : List ℕ) (j : ℕ) → j < length xs → get_or xs j 0 ≤ most xs
unfolding most
most_has [] j h = absurd (not-suc-le-zero h)
most_has (x ∷ xs) zero h = omega arith
most_has (x ∷ xs) (suc j) h = omega (arith, most_has xs j (le_of_suc-le-suc h))

place_is : (x : ℕ) (xs : List ℕ) (place : ℕ) → place < length xs → get_or xs place 0 ≡ x → ((j : ℕ) → j < place → get_or xs j 0 < x) → place_of x xs ≡ place
unfolding place_of
place_is x [] place h e before = absurd (not-suc-le-zero h)
place_is x (y ∷ ys) zero h e before = rw (eq-eqb y x e)
place_is x (y ∷ ys) (suc place) h e before =
    rw (ne_eqb y x (λ same. omega (arith, before 0 (suc-le-suc zero-le))))
    (ap suc (place_is x ys place (le_of_suc-le-suc h) e (λ j below. before (suc j) (suc-le-suc below))))

leads-all : (xs : List ℕ) (best : ℕ) → Leads (λ j. get_or xs j 0) best (length xs) → place_of_most xs ≡ best
unfolding place_of_most
leads-all xs best leads =
    let is-most : most xs ≡ get_or xs best 0 = le_antisymm (most_least xs (get_or xs best 0) leads.1) (most_has xs best leads.0) in
    place_is (most xs) xs best leads.0 (sym is-most) (λ j below. rw is-most (leads.2 j below))

-- at the end of the places of a list, whose elements have the numbers
pub leads-map : (f : ℕ → ℕ) (xs : List ℕ) (best : ℕ) → Leads (λ j. f (get_or xs j 0)) best (length xs) → place_of_most (map f xs) ≡ best
leads-map f xs best leads =
    let own = get_or-map f xs best 0 0 leads.0 in
    leads-all (map f xs) best
    (rw (length-map xs f) (
      leads.0,
      λ j below. rw (get_or-map f xs j 0 0 below, own) (leads.1 j below),
      λ j below. rw (get_or-map f xs j 0 0 (omega arith), own) (leads.2 j below),
    ))

-- a number that stands in a list has a place in it
place_within : (x : ℕ) (xs : List ℕ) (k : ℕ) → k < length xs → get_or xs k 0 ≡ x → place_of x xs < length xs
unfolding place_of
place_within x [] k h e = absurd (omega arith)
place_within x (y ∷ ys) zero h e = rw (eq-eqb y x e) (omega arith)
place_within x (y ∷ ys) (suc k) h e = cond_both (eqb y x) _ _ (λ place. place < suc (length ys)) (λ _. omega arith) (λ _. omega (arith, place_within x ys k (omega arith) e))

-- the largest of a list stands in it
most_at : (x : ℕ) (xs : List ℕ) → (k : ℕ) × (k < length (x ∷ xs)) × (get_or (x ∷ xs) k 0 ≡ most (x ∷ xs))
unfolding most
most_at x [] = (0, omega arith, omega arith)
most_at x (y ∷ ys) = go (dec_le (max y (most ys)) x) (most_at y ys)
  where
    go : Dec (max y (most ys) ≤ x) → (k : ℕ) × (k < length (y ∷ ys)) × (get_or (y ∷ ys) k 0 ≡ max y (most ys))
        → (k : ℕ) × (k < length (x ∷ y ∷ ys)) × (get_or (x ∷ y ∷ ys) k 0 ≡ max x (max y (most ys)))
    go (yes less) rest = (0, omega arith, omega arith)
    go (no more) rest = (suc rest.0, omega (arith, rest.1), rest.2 ∙ omega (arith, more))

most-within : (xs : List ℕ) → 0 < length xs → place_of_most xs < length xs
unfolding place_of_most
most-within [] some = absurd (omega arith)
most-within (x ∷ xs) some = let at = most_at x xs in place_within (most (x ∷ xs)) (x ∷ xs) at.0 at.1 at.2

pub longest_within : (ops starts counts side : List ℕ) → 0 < length side → longest_of ops starts counts side < length side
unfolding longest_of
longest_within ops starts counts side some =
    let size = length-map side (reference_bases_of ops starts counts) in
    rw size at (most-within (map (reference_bases_of ops starts counts) side) (rw size some))
