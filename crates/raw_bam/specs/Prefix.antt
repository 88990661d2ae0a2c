-- Document 01, 'CIGAR operations', Prefix, and 'Alignment group', the order of two lists at a tie.
use Rattle.std.specs.Prelude.{Bool, true, false, not, ◌&&◌, ◌||◌, List, [], ◌∷◌, ℕ, eqb, leb, ltb}
use Rattle.raw_bam.specs.Cigar.{op_length, op_code}

-- the last entry of a list against the other's at the same place: its kind, and at most its length
abbrev pub fits_last : ℕ → ℕ → Bool
fits_last x y = eqb (op_code x) (op_code y) && leb (op_length x) (op_length y)

-- xs is no longer than ys, all its entries but the last equal those of ys, and its last has the kind of that at its place
-- and at most its length; the empty list is a prefix of every list
unfoldable pub is_prefix : List ℕ → List ℕ → Bool
is_prefix [] ys = true
is_prefix (x ∷ xs) [] = false
is_prefix (x ∷ []) (y ∷ ys) = fits_last x y
is_prefix (x ∷ x' ∷ xs) (y ∷ ys) = eqb x y && is_prefix (x' ∷ xs) ys

-- one entry before another: by length, then by code
abbrev pub entry_before : ℕ → ℕ → Bool
entry_before x y = ltb (op_length x) (op_length y) || (eqb (op_length x) (op_length y) && ltb (op_code x) (op_code y))

-- the smaller list: entry by entry, then by the number of entries
unfoldable pub smaller : List ℕ → List ℕ → Bool
smaller [] [] = false
smaller [] (y ∷ ys) = true
smaller (x ∷ xs) [] = false
smaller (x ∷ xs) (y ∷ ys) = entry_before x y || (not (entry_before y x) && smaller xs ys)
