-- Strands as four columns, and the columns of their duplex.
use Rattle.std.specs.Prelude.{List, [], ◌∷◌, ◌≡◌, ℕ, ◌≤◌, length, get_or}
use Rattle.lists.specs.Tabulate.{tabulate}
use Rattle.codec_duplex.specs.Duplex.{Duplex}
use Rattle.codec_duplex.specs.Position.{combined}
use Rattle.codec_duplex.specs.declared.position.Position.{Position}

pub record Strand : Type 0 where
  pub bases : List ℕ
  pub quals : List ℕ
  pub depths : List ℕ
  pub errors : List ℕ

abbrev pub strand : (bases quals depths errors : List ℕ) → Strand
strand bases quals depths errors = record { bases = bases; quals = quals; depths = depths; errors = errors }

-- the lengths of a strand's columns
abbrev pub lengths : Strand → List ℕ
lengths s = length s.bases ∷ length s.quals ∷ length s.depths ∷ length s.errors ∷ []

abbrev pub position_at : Strand → ℕ → Position
position_at s i =
    record { base = get_or s.bases i 0; quality = get_or s.quals i 0; depth = get_or s.depths i 0; error = get_or s.errors i 0 }

-- one field of the duplex at position i
unfoldable pub field_at : (Position → ℕ) → Strand → Strand → ℕ → ℕ
field_at field a b i = field (combined (position_at a i) (position_at b i))

-- one column of the duplex
unfoldable pub combined_column : (Position → ℕ) → Strand → Strand → List ℕ
combined_column field a b = tabulate (field_at field a b) (length a.bases)

-- each column has n places
pub record HasLength (n : ℕ) (s : Strand) : Type 0 where
  pub bases : length s.bases ≡ n
  pub quals : length s.quals ≡ n
  pub depths : length s.depths ≡ n
  pub errors : length s.errors ≡ n

-- no column has less than n places
pub record HasRoom (n : ℕ) (d : Duplex) : Type 0 where
  pub bases : n ≤ length d.bases
  pub quals : n ≤ length d.quals
  pub depths : n ≤ length d.depths
  pub errors : n ≤ length d.errors

-- the columns of two strands are equally long, and no result is shorter
pub record Fitting (a b : Strand) (result : Duplex) : Type 0 where
  pub first : HasLength (length a.bases) a
  pub second : HasLength (length a.bases) b
  pub room : HasRoom (length a.bases) result
