-- A column whose first places are written.
use Rattle.std.specs.Prelude.{List, ◌++◌, length, drop}

-- the column old, with xs in its first places
abbrev pub written : {A : Type 0} → List A → List A → List A
written xs old = xs ++ drop (length xs) old
