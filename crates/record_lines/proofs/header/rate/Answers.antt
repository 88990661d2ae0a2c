-- A pattern whose exponent is not all ones, or whose digits are 0, is no NaN; the others are the one NaN, which 0 / 0 is.
use mathlib.Core.Bool.{not, and-false}
use mathlib.Core.Path.{◌≡◌, refl, ◌∙◌}
use Prim.Native.Nat.{ℕ, ◌%◌, ◌/◌}
use borrow.Author.Tests.{ne_eqb}
use lib.Dec.{T}
use lib.Ieee.{binary64, nan, of_bits, of_fields, odd, div, nan_bits}
use Rattle.record_lines.proofs.header.rate.Goals as goal

field-no-nan : (b : ℕ) → (b % 9223372036854775808 / 4503599627370496 ≡ 2047 → ⊥) → T (not (nan_bits binary64 b))
unfolding nan_bits
field-no-nan b h = rw (ne_eqb (b % 9223372036854775808 / 4503599627370496) 2047 h) tt

digits-no-nan : (b : ℕ) → b % 4503599627370496 ≡ 0 → T (not (nan_bits binary64 b))
unfolding nan_bits
digits-no-nan b h = rw (h, and-false) tt

is_nan : (b : ℕ) → b % 9223372036854775808 / 4503599627370496 ≡ 2047 → (b % 4503599627370496 ≡ 0 → ⊥) → nan ≡ of_bits binary64 b
unfolding of_bits of_fields
is_nan b h n = rw (h, ne_eqb (b % 4503599627370496) 0 n)

zero_by_zero : div binary64 (of_bits binary64 0) (of_bits binary64 0) ≡ nan
unfolding div of_bits of_fields odd
zero_by_zero = refl

pub float_from_bits-result : goal.float_from_bits-result
float_from_bits-result c = field-no-nan _ c.if-bits-ne2047.true

pub float_from_bits-result-then-bits-eq0 : goal.float_from_bits-result-then-bits-eq0
float_from_bits-result-then-bits-eq0 c = digits-no-nan _ c.if-bits-eq0.true

pub returns : goal.returns
returns c = zero_by_zero ∙ is_nan _ c.if-bits-ne2047.false c.if-bits-eq0.false
