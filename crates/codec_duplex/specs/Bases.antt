-- The duplex's bases and qualities without its depths and errors. Only inner contracts need it.
use Rattle.std.specs.Prelude.{List, [], ◌≡◌, ℕ}
use Rattle.lists.specs.Written.{written}
use Rattle.codec_duplex.specs.Columns.{Strand, strand, combined_column}
use Rattle.codec_duplex.specs.Duplex.{Duplex}
use Rattle.codec_duplex.specs.declared.position.Position.{Position}

-- a strand's bases and qualities alone: depth and error are 0 everywhere
abbrev pub bases_alone : (bases quals : List ℕ) → Strand
bases_alone bases quals = strand bases quals [] []

-- the duplex fills the first places of two columns
pub record FilledBases (a b : Strand) (before after : Duplex) : Type 0 where
  pub bases : after.bases ≡ written (combined_column Position.base a b) before.bases
  pub quals : after.quals ≡ written (combined_column Position.quality a b) before.quals
