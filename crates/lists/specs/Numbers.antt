-- The numbers that meet a test.
use Rattle.std.specs.Prelude.{Bool, List, ℕ, filter}
use Rattle.std.specs.List.{range_with_len}

-- of count numbers from one on, those that meet the test, in order
unfoldable pub numbers_from : (ℕ → Bool) → ℕ → ℕ → List ℕ
numbers_from test from count = filter test (range_with_len from count)
