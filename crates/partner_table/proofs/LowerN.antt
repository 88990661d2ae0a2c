-- A lowercase n in an output table is always wrong.
use mathlib.Core.Bool.{Bool, true, false, cond, not, ◌||◌}
use mathlib.Core.Path.{◌≡◌, refl, ◌∙◌}
use Prim.Native.Nat.{ℕ}
use native.Mathlib.Omega.{arith}
use borrow.Author.Tests.{eqb-false, ne_eqb, not-true}
use lib.Dec.{eqb, ltb}
use Rattle.std.proofs.lemmas.Bool.{and_parts}
use Rattle.std.specs.Prelude.{Some}
use Rattle.codec_duplex.specs.Position.{has_data, both_called, low_masked, by_data, combined}
use Rattle.codec_duplex.specs.declared.position.Position.{Position}
use Rattle.partner_table.specs.Check.{first_wrong_field}
use Rattle.partner_table.specs.declared.fault.Field.TheVariants.{Base}

data_not : (base : ℕ) → has_data base ≡ true → base ≡ 110 → ⊥
data_not base h e = eqb-false base 110 (not-true (eqb base 110) (and_parts (not (eqb base 78)) (not (eqb base 110)) h).1) e

pick_not : (t : Bool) (a b : ℕ) → (a ≡ 110 → ⊥) → (b ≡ 110 → ⊥) → cond t a b ≡ 110 → ⊥
pick_not true a b h k = h
pick_not false a b h k = k

picked_not : (t : Bool) (a b : Position) → (a.base ≡ 110 → ⊥) → (b.base ≡ 110 → ⊥) → (cond t a b).base ≡ 110 → ⊥
picked_not true a b h k = h
picked_not false a b h k = k

upper : ◌≡◌ {A = ℕ} 78 110 → ⊥
upper e = omega arith

low_not : (p : Position) → (p.base ≡ 110 → ⊥) → (low_masked p).base ≡ 110 → ⊥
low_not p h = pick_not (eqb p.quality 2) 78 p.base upper h

by_data_not : (t u : Bool) (a b : Position) → has_data a.base ≡ t → has_data b.base ≡ u → (by_data t u a b).base ≡ 110 → ⊥
by_data_not true true a b h k = low_not (both_called a b) (picked_not (ltb a.quality b.quality) b a (data_not b.base k) (data_not a.base h))
by_data_not true false a b h k = low_not a (data_not a.base h)
by_data_not false true a b h k = low_not b (data_not b.base k)
by_data_not false false a b h k = upper

-- the position rules never give n
pub never_lower : (a b : Position) → (combined a b).base ≡ 110 → ⊥
unfolding combined
never_lower a b =
    pick_not (eqb a.base 78 || eqb b.base 78) 78 (by_data (has_data a.base) (has_data b.base) a b).base upper
    (by_data_not (has_data a.base) (has_data b.base) a b refl refl)

-- so n is a wrong base
pub lower_wrong : (a b given : Position) → given.base ≡ 110 → first_wrong_field (combined a b) given ≡ Some Base
unfolding first_wrong_field
lower_wrong a b given e = rw (ne_eqb (combined a b).base given.base (λ same. never_lower a b (same ∙ e)))
