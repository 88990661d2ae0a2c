-- A field that reads as a number is that number's decimal.
use mathlib.Core.Bool.{Bool, true, false, cond, ◌&&◌, false≢true}
use mathlib.Core.List.{List, [], ◌∷◌, ◌++◌, append_assoc}
use mathlib.Core.Path.{◌≡◌, refl, sym, ◌∙◌, ap, subst}
use Prim.Native.Nat.{ℕ, ◌+◌, ◌-◌, ◌*◌, ◌/◌, ◌%◌, ◌^◌, ◌≤◌, ◌<◌}
use native.Mathlib.Omega.{arith}
use borrow.Author.Tests.{leb-true, not-true, eqb-false}
use lib.Dec.{leb, eqb}
use Rattle.std.specs.Prelude.{Some, None}
use Rattle.std.specs.List.{list_all}
use Rattle.std.proofs.lemmas.Bool.{and_parts}
use Rattle.table_text.specs.Decimal.{is_digit, spelled, plain, digits_number, number, decimal}
use Rattle.table_text.proofs.Decimals.{taken, decimal_digit, decimal_more}

spelled-le : (v : ℕ) (bs : List ℕ) → v ≤ spelled v bs
unfolding spelled
spelled-le v [] = omega arith
spelled-le v (b ∷ bs) = omega (arith, spelled-le (v * 10 + (b - 48)) bs)

digit_range : (b : ℕ) → is_digit b ≡ true → (48 ≤ b) × (b ≤ 57)
digit_range b h =
    let both = and_parts (leb 48 b) (leb b 57) h in
    (leb-true 48 b both.0, leb-true b 57 both.1)

-- one digit more
digit_after : (v b : ℕ) → 1 ≤ v → 48 ≤ b → b ≤ 57 → v * 10 + (b - 48) < 2 ^ 64 → decimal (v * 10 + (b - 48)) ≡ decimal v ++ (b ∷ [])
digit_after v b some low high fits =
    let front : (v * 10 + (b - 48)) / 10 ≡ v = omega arith in
    let back : 48 + (v * 10 + (b - 48)) % 10 ≡ b = omega arith in
    decimal_more (v * 10 + (b - 48)) (omega arith) fits ∙ rw (front, back)

-- digits after a number that is not 0
digits_after : (v : ℕ) (bs : List ℕ) → 1 ≤ v → list_all is_digit bs ≡ true → spelled v bs < 2 ^ 64 → decimal (spelled v bs) ≡ decimal v ++ bs
unfolding spelled
digits_after v [] some all fits = sym (mathlib.Core.List.append-nil (decimal v))
digits_after v (b ∷ bs) some all fits =
    let both = and_parts (is_digit b) (list_all is_digit bs) all in
    let range = digit_range b both.0 in
    let next : ℕ = v * 10 + (b - 48) in
    let small : v * 10 + (b - 48) < 2 ^ 64 = omega (arith, spelled-le (v * 10 + (b - 48)) bs, fits) in
    digits_after (v * 10 + (b - 48)) bs (omega arith) both.1 fits
    ∙ (ap (λ (xs : List ℕ). xs ++ bs) (digit_after v b some range.0 range.1 small) ∙ append_assoc (decimal v) (b ∷ []) bs)

one_digit : (b : ℕ) → is_digit b ≡ true → decimal (b - 48) ≡ b ∷ []
one_digit b h =
    let range = digit_range b h in
    let same : 48 + (b - 48) ≡ b = omega (arith, range.0) in
    decimal_digit (b - 48) (omega (arith, range.1)) ∙ rw same

-- a plain text of digits is the decimal of what it spells
pub spelled_once : (field : List ℕ) → plain field ≡ true → list_all is_digit field ≡ true → spelled 0 field < 2 ^ 64 → field ≡ decimal (spelled 0 field)
unfolding spelled plain
spelled_once [] p all fits = absurd (false≢true p)
spelled_once (b ∷ []) p all fits =
    let both = and_parts (is_digit b) true all in
    let same : 0 * 10 + (b - 48) ≡ b - 48 = omega arith in
    rw same (sym (one_digit b both.0))
spelled_once (b ∷ c ∷ bs) p all fits =
    let both = and_parts (is_digit b) (list_all is_digit (c ∷ bs)) all in
    let range = digit_range b both.0 in
    let other = eqb-false b 48 (not-true (eqb b 48) p) in
    let same : 0 * 10 + (b - 48) ≡ b - 48 = omega arith in
    let some : 1 ≤ b - 48 = above b range.0 other in
    let fits-too : spelled (b - 48) (c ∷ bs) < 2 ^ 64 = subst (λ (v : ℕ). spelled v (c ∷ bs) < 2 ^ 64) same fits in
    sym (ap (λ (v : ℕ). decimal (spelled v (c ∷ bs))) same ∙ (digits_after (b - 48) (c ∷ bs) some both.1 fits-too ∙ ap (λ (xs : List ℕ). xs ++ (c ∷ bs)) (one_digit b both.0)))
  where
    above : (b : ℕ) → 48 ≤ b → (b ≡ 48 → ⊥) → 1 ≤ b - 48
    above b low other = go (lib.Dec.ltb 48 b) refl
      where
        go : (t : Bool) → lib.Dec.ltb 48 b ≡ t → 1 ≤ b - 48
        go true e = omega (arith, borrow.Author.Tests.ltb-true 48 b e)
        go false e = absurd (other (omega (arith, low, borrow.Author.Tests.ltb-false 48 b e)))

-- a field that reads as v is `decimal v`
pub number_once : (limit : ℕ) (field : List ℕ) (v : ℕ) → limit ≤ 65535 → number limit field ≡ Some v → field ≡ decimal v
unfolding number digits_number
number_once limit field v short e = go (plain field) refl e
  where
    go : (t : Bool) → plain field ≡ t → cond t (cond (list_all is_digit field && leb (spelled 0 field) limit) (Some (spelled 0 field)) None) None ≡ Some v → field ≡ decimal v
    go true p e =
        let t = taken (list_all is_digit field && leb (spelled 0 field) limit) (spelled 0 field) v e in
        let both = and_parts (list_all is_digit field) (leb (spelled 0 field) limit) t.0 in
        spelled_once field p both.0 (omega (arith, leb-true (spelled 0 field) limit both.1)) ∙ ap decimal t.1
    go false p e = absurd cc
