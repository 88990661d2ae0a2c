-- Laws of the complement of a base.
use mathlib.Core.Path.{◌≡◌, ◌∙◌, ap}
use Prim.Native.Nat.{ℕ}
use native.Mathlib.Decide.{ℕ_discrete}
use borrow.Author.Tests.{ne_eqb}
use Rattle.codec_strands.specs.Strands.{complement}

pub complement_other : (base : ℕ) → (base ≡ 65 → ⊥) → (base ≡ 84 → ⊥) → (base ≡ 67 → ⊥) → (base ≡ 71 → ⊥) → complement base ≡ base
complement_other base a t c g = simp (ne_eqb base 65 a, ne_eqb base 84 t, ne_eqb base 67 c, ne_eqb base 71 g)

pub complement_twice : (base : ℕ) → complement (complement base) ≡ base
complement_twice base = by_base (ℕ_discrete base 65) (ℕ_discrete base 84) (ℕ_discrete base 67) (ℕ_discrete base 71)
  where
    by_base : Dec (base ≡ 65) → Dec (base ≡ 84) → Dec (base ≡ 67) → Dec (base ≡ 71) → complement (complement base) ≡ base
    by_base (yes e) t c g = rw e
    by_base (no a) (yes e) c g = rw e
    by_base (no a) (no t) (yes e) g = rw e
    by_base (no a) (no t) (no c) (yes e) = rw e
    by_base (no a) (no t) (no c) (no g) =
        let kept = complement_other base a t c g in
        ap complement kept ∙ kept
