-- A bit of a number, read by a mask.
use mathlib.Core.Bool.{not}
use mathlib.Core.Logic.{⊎_elim}
use mathlib.Core.Path.{◌≡◌, subst}
use Prim.Native.Nat.{ℕ, suc, ◌-◌, ◌*◌, ◌/◌, ◌%◌, ◌^◌, ◌<◌}
use native.Mathlib.Omega.{arith}
use lib.Bits.{bit_and}
use lib.Dec.{eqb}
use Rattle.std.proofs.lemmas.Nat.{pow_pos}
use Rattle.std.proofs.lemmas.Bool.{eq-eqb, ne_eqb, cases_eq}
use Rattle.std.proofs.lemmas.Grind.{bit_length}
use Rattle.std.proofs.lemmas.Nat.Bits.{and_pow}

-- a power of two times a bit is 0 where the bit is
times : (bit power : ℕ) → bit < 2 → 0 < power → not (eqb (bit * power) 0) ≡ eqb bit 1
times bit power small some =
    ⊎_elim
    (λ e. rw (e, eq-eqb (0 * power) 0 (omega arith)))
    (λ differ. let one : bit ≡ 1 = omega arith in rw (one, ne_eqb (1 * power) 0 (λ e. omega arith)))
    (cases_eq bit 0)

-- with a mask of one bit, suc m
pub masked : (n m : ℕ) → 2 ^ (bit_length 16 (suc m) - 1) ≡ suc m → not (eqb (bit_and n (suc m)) 0) ≡ eqb (n / suc m % 2) 1
masked n m one =
    let k = bit_length 16 (suc m) - 1 in
    subst (λ (b : ℕ). not (eqb (bit_and n b) 0) ≡ eqb (n / b % 2) 1) one
    (rw and_pow (times (n / 2 ^ k % 2) (2 ^ k) (omega arith) (pow_pos k)))
