-- Document 01, 'Short clamps': fgbio keeps depths and errors in signed 16-bit numbers.
use Rattle.std.specs.Prelude.{ℕ, min, ℤ, pos, negsuc}

-- a depth is capped at 32,767
abbrev pub short_depth : ℕ → ℕ
short_depth depth = min depth 32767

-- a combined error is limited to 0..32,767
abbrev pub short_error : ℤ → ℕ
short_error (pos n) = min n 32767
short_error (negsuc n) = 0
