-- A duplex's bases and qualities need those of its strands alone.
use mathlib.Core.Bool.{Bool, true, false, cond, ◌||◌}
use mathlib.Core.Path.{◌≡◌, refl}
use Prim.Native.Nat.{ℕ}
use lib.Dec.{eqb, ltb}
use Rattle.lists.proofs.Tabulate.{tabulate-same}
use Rattle.codec_duplex.specs.Bases.{bases_alone}
use Rattle.codec_duplex.specs.Columns.{Strand, position_at, field_at, combined_column}
use Rattle.codec_duplex.specs.Position.{has_data, by_data, forced, combined}
use Rattle.codec_duplex.specs.declared.position.Position.{Position}

-- a position without its depth and error
abbrev alone : Position → Position
alone p = record { base = p.base; quality = p.quality; depth = 0; error = 0 }

winner-alone : (second : Bool) (a b : Position) → (cond second (alone b) (alone a)).base ≡ (cond second b a).base
winner-alone true a b = refl
winner-alone false a b = refl

base_by_data : (a-data b-data no_call : Bool) (a b : Position)
    → (forced no_call (by_data a-data b-data (alone a) (alone b))).base ≡ (forced no_call (by_data a-data b-data a b)).base
base_by_data true true no_call a b = rw (winner-alone (ltb a.quality b.quality) a b)
base_by_data true false no_call a b = refl
base_by_data false true no_call a b = refl
base_by_data false false no_call a b = refl

quality_by_data : (a-data b-data no_call : Bool) (a b : Position)
    → (forced no_call (by_data a-data b-data (alone a) (alone b))).quality ≡ (forced no_call (by_data a-data b-data a b)).quality
quality_by_data true true no_call a b = refl
quality_by_data true false no_call a b = refl
quality_by_data false true no_call a b = refl
quality_by_data false false no_call a b = refl

base_alone : (a b : Position) → (combined (alone a) (alone b)).base ≡ (combined a b).base
unfolding combined
base_alone a b = base_by_data (has_data a.base) (has_data b.base) (eqb a.base 78 || eqb b.base 78) a b

quality_alone : (a b : Position) → (combined (alone a) (alone b)).quality ≡ (combined a b).quality
unfolding combined
quality_alone a b = quality_by_data (has_data a.base) (has_data b.base) (eqb a.base 78 || eqb b.base 78) a b

column-alone : (field : Position → ℕ) → ((a b : Position) → field (combined (alone a) (alone b)) ≡ field (combined a b)) → (a b : Strand)
    → combined_column field (bases_alone a.bases a.quals) (bases_alone b.bases b.quals) ≡ combined_column field a b
unfolding combined_column field_at
column-alone field same a b = tabulate-same _ _ _ (λ i h. same (position_at a i) (position_at b i))

module _ (a b : Strand) where
  pub bases_alone_lem : combined_column Position.base (bases_alone a.bases a.quals) (bases_alone b.bases b.quals) ≡ combined_column Position.base a b
  bases_alone_lem = column-alone Position.base base_alone a b

  pub quals_alone : combined_column Position.quality (bases_alone a.bases a.quals) (bases_alone b.bases b.quals) ≡ combined_column Position.quality a b
  quals_alone = column-alone Position.quality quality_alone a b
