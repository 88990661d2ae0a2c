-- The columns of a duplex, written.
use Rattle.std.specs.Prelude.{◌≡◌}
use Rattle.lists.specs.Written.{written}
use Rattle.codec_duplex.specs.Columns.{Strand, combined_column}
use Rattle.codec_duplex.specs.Kept.{Kept}
use Rattle.codec_duplex.specs.Units.{Coding}
use Rattle.codec_duplex.specs.declared.position.Position.{Position}

-- the duplex fills the first places of four columns
pub record Filled {U : Type 0} (l : Coding U) (a b : Strand) (before after : Kept U) : Type 0 where
  pub bases : after.bases ≡ written (combined_column Position.base a b) before.bases
  pub quals : after.quals ≡ written (combined_column Position.quality a b) before.quals
  pub depths : after.depths ≡ written (l.units (combined_column Position.depth a b)) before.depths
  pub errors : after.errors ≡ written (l.units (combined_column Position.error a b)) before.errors
