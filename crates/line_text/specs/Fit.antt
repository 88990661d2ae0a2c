-- What is known of the values that a layout let through.
use Rattle.std.specs.Prelude.{List, ℕ, ◌+◌, ◌≤◌, ◌<◌, length, get_or, ⊤}
use Rattle.line_text.specs.declared.value.Kind.{Kind}
use Rattle.line_text.specs.declared.value.Kind.TheVariants.{Plain, OrNone, Signed}
use Rattle.line_text.specs.declared.value.Value.{Value}
use Rattle.line_text.specs.declared.value.Value.TheVariants.{Nothing, Number, Below}

-- a value that a field of a kind can have: up to the limit, or below 0 down to one beyond it
abbrev pub Fit : Kind → Value → Type 0
Fit (Plain limit) (Number n) = n ≤ limit
Fit (OrNone limit) Nothing = ⊤
Fit (OrNone limit) (Number n) = n ≤ limit
Fit (Signed limit) (Number n) = n ≤ limit
Fit (Signed limit) (Below n) = (1 ≤ n) × (n ≤ limit + 1)
Fit _ _ = ⊥

-- each value fits its place in the layout
abbrev pub Fitting : List Kind → List Value → Type 0
Fitting layout values = (k : ℕ) → k < length layout → Fit (get_or layout k (Plain 0)) (get_or values k Nothing)
