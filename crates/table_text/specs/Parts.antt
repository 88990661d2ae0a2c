-- A text taken apart at a byte.
use Rattle.std.specs.Prelude.{cond, List, [], ◌∷◌, ℕ, suc, eqb}

-- parts that are each ended by the byte, and what stands after the last of them
pub data Parts : Type 0 where
  last : List ℕ → Parts
  ended : List ℕ → Parts → Parts

-- a byte in front of the first part
unfoldable pub in_front : ℕ → Parts → Parts
in_front b (last part) = last (b ∷ part)
in_front b (ended part more) = ended (b ∷ part) more

-- a text taken apart at each place of the byte
unfoldable pub parts : ℕ → List ℕ → Parts
parts byte [] = last []
parts byte (b ∷ bs) = cond (eqb b byte) (ended [] (parts byte bs)) (in_front b (parts byte bs))

-- how many parts are ended by the byte
unfoldable pub ended_parts : Parts → ℕ
ended_parts (last part) = 0
ended_parts (ended part more) = suc (ended_parts more)
