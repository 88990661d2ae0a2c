-- Long division of d by n, a decimal digit at a time: what the quotient and the remainder are after any number of digits.
use mathlib.Core.Path.{◌≡◌, sym, ◌∙◌, ap}
use Prim.Native.Nat.{ℕ, ◌+◌, ◌*◌, ◌/◌, ◌%◌, ◌^◌, ◌≤◌, ◌<◌}
use native.Mathlib.Nat.{mul_assoc, mul_comm, mul-le-mul, pow-le-pow_right, pow-succ', div-add-mod', div-le_self, mul-add-div_right, mul-add-mod_self_right}
use native.Mathlib.Numerals.{add-one}
use native.Mathlib.Omega.{arith}

module _ (d n k : ℕ) where
  -- d with k digits 0 behind it
  abbrev pub dividend : ℕ
  dividend = d * 10 ^ k

  -- with one more 0 it is ten of the quotients times n, and ten of the remainders
  ten_more : d * 10 ^ (k + 1) ≡ dividend / n * 10 * n + dividend % n * 10
  ten_more =
      let more : d * 10 ^ (k + 1) ≡ dividend * 10 = rw (add-one, pow-succ', mul_comm 10 (10 ^ k)) (sym (mul_assoc d (10 ^ k) 10)) in
      let turned : dividend / n * 10 * n ≡ dividend / n * n * 10 = mul_assoc (dividend / n) 10 n ∙ ap (λ (m : ℕ). dividend / n * m) (mul_comm 10 n) ∙ sym (mul_assoc (dividend / n) n 10) in
      omega (arith, div-add-mod' dividend n)

  pub next_quotient : 0 < n → d * 10 ^ (k + 1) / n ≡ dividend / n * 10 + dividend % n * 10 / n
  next_quotient some = ap (λ (m : ℕ). m / n) ten_more ∙ mul-add-div_right some (dividend / n * 10) (dividend % n * 10)

  pub next_remainder : d * 10 ^ (k + 1) % n ≡ dividend % n * 10 % n
  next_remainder = ap (λ (m : ℕ). m % n) ten_more ∙ mul-add-mod_self_right (dividend / n * 10) n (dividend % n * 10)

  -- of up to six digits no quotient passes 61 bits
  pub quotient_small : d ≤ 2 ^ 41 → k ≤ 6 → dividend / n < 2 ^ 61
  quotient_small small few =
      let most : dividend ≤ 2 ^ 41 * 10 ^ 6 = mul-le-mul small (pow-le-pow_right (omega arith) few) in
      omega (arith, div-le_self dividend n)
