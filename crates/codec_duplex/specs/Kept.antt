-- Four columns as they are kept, and the strand or the duplex that they hold.
use Rattle.std.specs.Prelude.{Bool, ◌&&◌, List, ℕ, eqb, leb, length}
use Rattle.std.specs.List.{list_all}
use Rattle.codec_duplex.specs.Columns.{Strand, strand, lengths}
use Rattle.codec_duplex.specs.Duplex.{Duplex, duplex}
use Rattle.codec_duplex.specs.Units.{Coding}

pub record Kept (U : Type 0) : Type 0 where
  pub bases : List ℕ
  pub quals : List ℕ
  pub depths : List U
  pub errors : List U

abbrev pub kept : {U : Type 0} (bases quals : List ℕ) (depths errors : List U) → Kept U
kept bases quals depths errors = record { bases = bases; quals = quals; depths = depths; errors = errors }

module _ {U : Type 0} (l : Coding U) where
  abbrev pub read : Kept U → Strand
  read k = strand k.bases k.quals (l.counts k.depths) (l.counts k.errors)

  abbrev pub read_duplex : Kept U → Duplex
  read_duplex k = duplex k.bases k.quals (l.counts k.depths) (l.counts k.errors)

  -- no unit of depths or errors is left over, and each column meets the test of its length
  abbrev pub each_length : (ℕ → Bool) → Kept U → Bool
  each_length test k =
      l.is_whole (length k.depths) && (l.is_whole (length k.errors) && list_all test (lengths (read k)))

  -- the columns are equally long, not above 2,048, and no result is shorter
  unfoldable pub columns_fit : (a b results : Kept U) → Bool
  columns_fit a b results =
      let n = length a.bases in
      (each_length (eqb n) a && each_length (eqb n) b) && (leb n 2048 && each_length (leb n) results)
