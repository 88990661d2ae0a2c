-- Where nothing is refused, no cause holds.
use mathlib.Core.Bool.{Bool, true, false, cond}
use mathlib.Core.Path.{◌≡◌, refl}
use Rattle.std.specs.Prelude.{Result, Ok, Err, is_err}
use Rattle.std.specs.Result.{result_and}

module _ {E : Type 0} where
  pub accepted : (r : Result Unit E) → is_err r ≡ false → r ≡ Ok tt
  accepted (Ok done) e = refl
  accepted (Err why) e = cc

  pub passed : (cause : Bool) (why : E) (next : Result Unit E) → cond cause (Err why) next ≡ Ok tt → (cause ≡ false) × (next ≡ Ok tt)
  passed true why next e = cc
  passed false why next e = (refl, e)

  pub both_passed : (first next : Result Unit E) → result_and first next ≡ Ok tt → (first ≡ Ok tt) × (next ≡ Ok tt)
  both_passed (Ok done) next e = (refl, e)
  both_passed (Err why) next e = cc
