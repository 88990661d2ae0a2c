-- Whether a number is in a list.
use Rattle.std.specs.Prelude.{Bool, List, ℕ, eqb}
use Rattle.std.specs.List.{list_any}

unfoldable pub is_in : ℕ → List ℕ → Bool
is_in i js = list_any (λ j. eqb i j) js
