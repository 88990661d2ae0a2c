-- The duplex as four columns; a type of its own, so that a column of the duplex's alone touches no strand.
use Rattle.std.specs.Prelude.{List, [], ◌∷◌, ℕ, length}
use Rattle.lists.specs.Written.{written}

pub record Duplex : Type 0 where
  pub bases : List ℕ
  pub quals : List ℕ
  pub depths : List ℕ
  pub errors : List ℕ

abbrev pub duplex : (bases quals depths errors : List ℕ) → Duplex
duplex bases quals depths errors = record { bases = bases; quals = quals; depths = depths; errors = errors }

-- the lengths of a duplex's columns
abbrev pub duplex_lengths : Duplex → List ℕ
duplex_lengths d = length d.bases ∷ length d.quals ∷ length d.depths ∷ length d.errors ∷ []

-- the duplex fills the first places of four columns
abbrev pub written_duplex : (d before : Duplex) → Duplex
written_duplex d before =
    duplex
    (written d.bases before.bases)
    (written d.quals before.quals)
    (written d.depths before.depths)
    (written d.errors before.errors)
