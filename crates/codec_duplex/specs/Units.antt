-- How a column keeps its counts: as 16-bit numbers, or as byte pairs, low byte first.
use Rattle.std.specs.Prelude.{Bool, true, List, [], ◌∷◌, ◌++◌, ◌≡◌, refl, ℕ, ◌+◌, ◌*◌, ◌/◌, ◌%◌, ◌<◌, eqb, length, set}
use Rattle.lists.specs.Written.{written}

-- the counts that units hold, the units that hold counts, and whether so many units are whole counts
pub record Coding (U : Type 0) : Type 0 where
  pub counts : List U → List ℕ
  pub units : List ℕ → List U
  pub is_whole : ℕ → Bool
  -- units whose i-th count is another
  pub put : List U → (i value : ℕ) → List U

-- a column whose i-th count is set: where the first i counts are written, one more is
pub record Writes {U : Type 0} (l : Coding U) (i value : ℕ) (before after : List U) : Type 0 where
  pub exact : after ≡ l.put before i value
  pub room : length (l.counts after) ≡ length (l.counts before)
  pub next : (xs : List ℕ) (lent : List U) → length xs ≡ i → i < length (l.counts lent)
      → before ≡ written (l.units xs) lent
      → after ≡ written (l.units (xs ++ value ∷ [])) lent

-- the values that bytes hold
unfoldable pub words : List ℕ → List ℕ
words [] = []
words (low ∷ []) = []
words (low ∷ high ∷ bytes) = (low + 256 * high) ∷ words bytes

-- the bytes that hold values
unfoldable pub low_first : List ℕ → List ℕ
low_first [] = []
low_first (x ∷ xs) = (x % 256) ∷ (x / 256) ∷ low_first xs

pub low_first-none : low_first [] ≡ []
unfolding low_first
low_first-none = refl

abbrev pub even : ℕ → Bool
even n = eqb (n % 2) 0

abbrev pub shorts : Coding ℕ
shorts = record { counts = λ xs. xs; units = λ xs. xs; is_whole = λ n. true; put = λ xs i value. set xs i value }

abbrev pub byte_pairs : Coding ℕ
byte_pairs =
    record {
      counts = words;
      units = low_first;
      is_whole = even;
      put = λ bytes i value. set (set bytes (i * 2) (value % 256)) (i * 2 + 1) (value / 256);
    }
