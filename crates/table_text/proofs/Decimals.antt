-- Laws of decimals, read and written.
use mathlib.Core.Bool.{◌&&◌, and-eq-true_iff, Bool, true, false, cond}
use mathlib.Core.List.{List, [], ◌∷◌, ◌++◌}
use mathlib.Core.Path.{◌≡◌, refl}
use Prim.Native.Nat.{ℕ, zero, suc, ◌+◌, ◌/◌, ◌%◌, ◌^◌, ◌≤◌, ◌<◌, zero-le}
use native.Mathlib.Nat.{pow-suc}
use native.Mathlib.Omega.{arith}
use borrow.Author.Tests.{leb-true, lt-ltb, le-ltb}
use lib.Dec.{leb, ltb}
use lib.ListN.{length, length-append}
use Rattle.std.specs.List.{list_all}
use Rattle.std.specs.Prelude.{Some, None}
use Rattle.table_text.specs.Decimal.{is_digit, spelled, plain, digits_number, number, last_digits, decimal}
use Rattle.table_text.specs.OutputTable.{number_text}

-- a choice that gave a value took its first arm
pub taken : (t : Bool) (x w : ℕ) → cond t (Some x) None ≡ Some w → (t ≡ true) × (x ≡ w)
taken true x w e = (refl, cc)
taken false x w e = absurd cc

-- a number that is read is within its limit
pub number-le : (limit : ℕ) (field : List ℕ) (v : ℕ) → number limit field ≡ Some v → v ≤ limit
unfolding number digits_number
number-le limit field v e = go (plain field) e
  where
    go : (t : Bool) → cond t (cond (list_all is_digit field && leb (spelled 0 field) limit) (Some (spelled 0 field)) None) None ≡ Some v → v ≤ limit
    go true e =
        let value : ℕ = spelled 0 field in
        let t = taken (list_all is_digit field && leb value limit) value v e in
        omega (arith, leb-true value limit ((and-eq-true_iff (list_all is_digit field) (leb value limit)).0 t.0).1, t.1)
    go false e = absurd cc

level : (k n : ℕ) → last_digits (suc k) n ≡ cond (ltb n 10) ((48 + n) ∷ []) (last_digits k (n / 10) ++ ((48 + n % 10) ∷ []))
unfolding last_digits
level k n = refl

-- more room than a number needs changes nothing
enough : (k n : ℕ) → n < 10 ^ suc k → last_digits (suc (suc k)) n ≡ last_digits (suc k) n
enough zero n h = rw (level 1 n, level 0 n, lt-ltb n 10 h)
enough (suc k) n h = rw (level (suc (suc k)) n, level (suc k) n, enough k (n / 10) (omega (arith, pow-suc 10 (suc k))))

pub decimal_digit : (n : ℕ) → n < 10 → decimal n ≡ (48 + n) ∷ []
unfolding decimal
decimal_digit n h = rw (level 19 n, lt-ltb n 10 h)

pub decimal_more : (n : ℕ) → 10 ≤ n → n < 2 ^ 64 → decimal n ≡ decimal (n / 10) ++ ((48 + n % 10) ∷ [])
unfolding decimal
decimal_more n h fits = rw (level 19 n, le-ltb n 10 h, enough 18 (n / 10) (omega arith))

shorter : (room k n : ℕ) → n < 10 ^ suc k → length (last_digits room n) ≤ suc k
unfolding last_digits
shorter zero k n h = zero-le
shorter (suc room) zero n h = rw (level room n, lt-ltb n 10 h) (omega arith)
shorter (suc room) (suc k) n h = go (ltb n 10) (shorter room k (n / 10) (omega (arith, pow-suc 10 (suc k))))
  where
    go : (t : Bool) → length (last_digits room (n / 10)) ≤ suc k → length (cond t ((48 + n) ∷ []) (last_digits room (n / 10) ++ ((48 + n % 10) ∷ []))) ≤ suc (suc k)
    go true e = omega arith
    go false e = simp length-append (omega arith)

-- at most as many digits as the power of ten above the number has zeros
pub length-decimal : (k n : ℕ) → n < 10 ^ suc k → length (decimal n) ≤ suc k
unfolding decimal
length-decimal k n h = shorter 20 k n h

-- the digits and the byte after them
pub length-number_text : (k n after : ℕ) → n < 10 ^ suc k → length (number_text n after) ≤ suc (suc k)
unfolding number_text
length-number_text k n after h = omega (arith, length-decimal k n h, length-append (decimal n) (after ∷ []))
