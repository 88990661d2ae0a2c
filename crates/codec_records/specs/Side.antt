-- One side of a family, a list of record numbers.
use Rattle.std.specs.Prelude.{Bool, cond, List, [], ◌∷◌, ℕ}

-- the records of a side that stay, in given order
unfoldable pub kept : List ℕ → List Bool → List ℕ
kept [] stays = []
kept (r ∷ side) [] = []
kept (r ∷ side) (stays ∷ more) = cond stays (r ∷ kept side more) (kept side more)
