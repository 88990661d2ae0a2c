-- Laws of a list whose elements are mapped.
use mathlib.Core.List.{List, [], ◌∷◌, ◌++◌, map, map-append}
use mathlib.Core.Path.{◌≡◌, subst}
use Prim.Native.Nat.{ℕ, ◌+◌, ◌<◌}
use native.Mathlib.Numerals.{add-one}
use native.Mathlib.Omega.{arith}
use lib.ListN.{length, get_or, set, take, length-map}
use lib.Seq.{take-suc, length-take-le}
use Rattle.lists.specs.Written.{written}
use Rattle.lists.proofs.Written.{written_more}

module _ {A B : Type 0} (f : A → B) where
  -- a column that the mapped elements are written to, one more a turn
  pub written-map_more : (xs : List A) (a : A) (old : List B) → length xs < length old → set (written (map f xs) old) (length xs) (f a) ≡ written (map f (xs ++ (a ∷ []))) old
  written-map_more xs a old h =
      rw (map-append)
      (subst (λ (k : ℕ). set (written (map f xs) old) k (f a) ≡ written (map f xs ++ (f a ∷ [])) old) (length-map xs f)
      (written_more (map f xs) old (f a) (rw (length-map xs f) h)))

  -- the same of the first i elements of a list, and of a column and a value that are known by equations
  pub written-map_put : (xs : List A) (d : A) (old : List B) {col : List B} {v : B} (i : ℕ) → i < length xs → i < length old
      → col ≡ written (map f (take i xs)) old
      → v ≡ f (get_or xs i d)
      → set col i v ≡ written (map f (take (i + 1) xs)) old
  written-map_put xs d old i h room e g =
      let n : length (take i xs) ≡ i = length-take-le i xs (omega arith) in
      rw (e, g, add-one, take-suc xs i d)
      (subst (λ (k : ℕ). set (written (map f (take i xs)) old) k (f (get_or xs i d)) ≡ written (map f (take i xs ++ (get_or xs i d ∷ []))) old) n
      (written-map_more (take i xs) (get_or xs i d) old (rw n room)))
