-- Counting the numbers below a bound that meet a test.
use Rattle.std.specs.Prelude.{Bool, ℕ, count_by}
use Rattle.std.specs.List.{range_with_len}

-- how many numbers below n meet the test
unfoldable pub count_below : (ℕ → Bool) → ℕ → ℕ
count_below test n = count_by test (range_with_len 0 n)
