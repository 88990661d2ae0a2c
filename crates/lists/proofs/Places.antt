-- Laws of the places of a list and their default.
use mathlib.Core.Path.{◌≡◌, refl}
use Prim.Native.Nat.{ℕ, zero, suc}
use lib.ListN.{get_or, replicate}

module _ {A : Type 0} where
  -- a repeated value that is the default too
  pub get_d_repeated : (n k : ℕ) (x : A) → get_or (replicate n x) k x ≡ x
  get_d_repeated zero k x = refl
  get_d_repeated (suc n) zero x = refl
  get_d_repeated (suc n) (suc k) x = get_d_repeated n k x
