-- By the length of the field: none, one, more.
use Rattle.std.proofs.Common.{◌≡◌, ◌≤◌, ℕ, true, false, not, List, [], ◌∷◌, length, slice_index_or, eqb, refl, arith}
use Rattle.table_text.specs.Decimal.{plain}
use Rattle.table_text.proofs.decimal.starts_plain.Goals as goal

none : (xs : List ℕ) → length xs ≡ 0 → false ≡ plain xs
unfolding plain
none [] e = refl
none (b ∷ bs) e = absurd (omega arith)

one : (xs : List ℕ) → length xs ≡ 1 → true ≡ plain xs
unfolding plain
one [] e = absurd (omega arith)
one (b ∷ []) e = refl
one (b ∷ c ∷ bs) e = absurd (omega arith)

more : (xs : List ℕ) → 2 ≤ length xs → not (eqb (slice_index_or xs 0 0) 48) ≡ plain xs
unfolding plain
more [] h = absurd (omega arith)
more (b ∷ []) h = absurd (omega arith)
more (b ∷ c ∷ bs) h = refl

pub returns-in-empty : goal.returns-in-empty
returns-in-empty c = none _ (omega arith)

pub returns-in-len1 : goal.returns-in-len1
returns-in-len1 c = one _ (omega arith)

pub returns-in-len1-up : goal.returns-in-len1-up
returns-in-len1-up c = more _ (omega arith)
