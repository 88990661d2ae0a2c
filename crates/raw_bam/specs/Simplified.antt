-- Document 01, 'CIGAR operations', Simplified: S, H, = and X become M, then neighbours of one kind join; the list of a
-- reverse record is then reversed. An entry is length × 16 + code, as a word, but its length is not bounded by 28 bits.
use Rattle.std.specs.Prelude.{Bool, cond, List, [], ◌∷◌, map, reverse, ℕ, ◌+◌, ◌*◌, eqb}
use Rattle.raw_bam.specs.Cigar.{op_length, op_code}

-- the kind that a code becomes: M for S, H, = and X
unfoldable pub kind_of : ℕ → ℕ
kind_of code = cond (eqb code 4) 0 (cond (eqb code 5) 0 (cond (eqb code 7) 0 (cond (eqb code 8) 0 code)))

unfoldable pub simple_entry : ℕ → ℕ
simple_entry word = op_length word * 16 + kind_of (op_code word)

-- two neighbours of one kind as one entry
abbrev pub joined_word : ℕ → ℕ → ℕ
joined_word x y = (op_length x + op_length y) * 16 + op_code x

-- an entry put before a list: joined with the first entry where neighbours of their kinds join
unfoldable pub prepend_by : (joins : ℕ → ℕ → Bool) → ℕ → List ℕ → List ℕ
prepend_by joins x [] = x ∷ []
prepend_by joins x (y ∷ ys) = cond (joins (op_code x) (op_code y)) (joined_word x y ∷ ys) (x ∷ y ∷ ys)

-- a list whose neighbours of such kinds are joined
unfoldable pub joined_by : (joins : ℕ → ℕ → Bool) → List ℕ → List ℕ
joined_by joins [] = []
joined_by joins (x ∷ xs) = prepend_by joins x (joined_by joins xs)

-- neighbours of one kind join
abbrev pub joined : List ℕ → List ℕ
joined xs = joined_by eqb xs

-- the simplified list of a record
unfoldable pub simplified : Bool → List ℕ → List ℕ
simplified is_reverse ops = cond is_reverse (reverse (joined (map simple_entry ops))) (joined (map simple_entry ops))
