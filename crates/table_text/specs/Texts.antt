-- Texts one after another.
use Rattle.std.specs.Prelude.{List, [], ◌++◌, ℕ, zero, suc}

-- the text at place 0, at place 1, .. at place n - 1
unfoldable pub texts : (ℕ → List ℕ) → ℕ → List ℕ
texts at zero = []
texts at (suc n) = texts at n ++ at n
