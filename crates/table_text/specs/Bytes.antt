-- Where a byte first stands.
use Rattle.std.specs.Prelude.{Bool, true, false, List, [], ◌∷◌, ℕ, suc, eqb}

-- the place, one further where the byte isn't at the front
unfoldable pub index_after : Bool → ℕ → ℕ
index_after true k = 0
index_after false k = suc k

-- the first place of the byte, or the length where it is nowhere
unfoldable pub index_of : ℕ → List ℕ → ℕ
index_of byte [] = 0
index_of byte (b ∷ bs) = index_after (eqb b byte) (index_of byte bs)
