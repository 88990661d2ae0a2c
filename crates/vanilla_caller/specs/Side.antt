-- The records of a side, as columns: each has a part of the operation words and its own orientation.
use Rattle.std.specs.Prelude.{Bool, false, List, ℕ, ◌≡◌, ◌+◌, ◌≤◌, ◌<◌, All, length, get_or}
use Rattle.raw_bam.specs.Cigar.{part_of}
use Rattle.raw_bam.specs.Simplified.{simplified}

-- the simplified list of record i
unfoldable pub list_of : List ℕ → List ℕ → List ℕ → List Bool → ℕ → List ℕ
list_of ops starts counts is_reverse i = simplified (get_or is_reverse i false) (part_of ops (get_or starts i 0) (get_or counts i 0))

-- record i is in the columns, and its operations, at most 64, lie in the slice
pub record HasRecord (ops starts counts : List ℕ) (is_reverse : List Bool) (i : ℕ) : Type 0 where
  pub has_start : i < length starts
  pub has_count : i < length counts
  pub has_reverse : i < length is_reverse
  pub part : get_or starts i 0 + get_or counts i 0 ≤ length ops
  pub short : get_or counts i 0 ≤ 64

-- each of n records is
abbrev pub HasRecords : List ℕ → List ℕ → List ℕ → List Bool → ℕ → Type 0
HasRecords ops starts counts is_reverse n = (i : ℕ) → i < n → HasRecord ops starts counts is_reverse i

-- an order of n records is as long and holds none but those
pub record Orders (n : ℕ) (order : List ℕ) : Type 0 where
  pub long : length order ≡ n
  pub within : All (λ i. i < n) order
