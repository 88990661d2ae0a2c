-- A side of admissible records stays one through steps 4 and 5.
use mathlib.Core.Bool.{Bool, true, false, cond, ◌&&◌}
use mathlib.Core.List.{List}
use mathlib.Core.Path.{◌≡◌, refl}
use Prim.Native.Nat.{ℕ, ◌≤◌, ◌<◌}
use native.Mathlib.Omega.{arith}
use lib.Dec.{eqb}
use lib.IntN.{ℤ}
use lib.ListN.{length}
use Rattle.caller.specs.Reasons.{number_of}
use Rattle.caller.specs.declared.reason.RejectionReason.TheVariants.{Downsampled}
use Rattle.codec_select.specs.Alignments.{Alignments, Admissible, Formed, EnteredAdmissible}
use Rattle.codec_pairing.specs.Pairing.{side_r1, side_r2}
use Rattle.codec_records.specs.Records.{Below}
use Rattle.codec_records.specs.Side.{kept}
use Rattle.codec_sides.specs.Side.{dropped, under_cap, given_fate, capped, with_excess}
use Rattle.codec_select.specs.Steps.{is_in_group, grouped, cap_is_zero}
use Rattle.codec_records.specs.declared.options.Options.{Options}
use Rattle.codec_pairing.proofs.Entered.{length-side_r2, sides_half, side_r1_entered, side_r2_entered}
use Rattle.codec_sides.proofs.Keeping.{length-given_fate}
use Rattle.codec_records.proofs.Kept.{length-kept, kept_each}
use Rattle.codec_sides.proofs.Remaining.{group_nonempty, cap_nonempty}
use borrow.Author.Tests.{eqb-false}

kept_formed : (a : Alignments) (side : List ℕ) (stays : List Bool) → Formed a side → 0 < length (kept side stays) → Formed a (kept side stays)
kept_formed a side stays formed some =
    record {
      some = some;
      few = omega (arith, length-kept side stays, formed.few);
      admissible = kept_each (Admissible a) side stays formed.admissible;
    }

module _ (a : Alignments) (side : List ℕ) where
  pub grouped_formed : Formed a side → Formed a (grouped a side)
  unfolding is_in_group
  grouped_formed formed =
      kept_formed a side (is_in_group a side) formed (group_nonempty a.ops a.clipped a.starts a.counts a.flags side formed.some)

  pub grouped-below : (n : ℕ) → Below side n → Below (grouped a side) n
  grouped-below n below = kept_each (λ r. r < n) side (is_in_group a side) below

  module _ (o : Options) (ranks : List ℤ) where
    -- with a cap that is not 0
    pub capped_formed : cap_is_zero o ≡ false → Formed a side → Formed a (capped o ranks side)
    unfolding capped
    capped_formed not-zero formed = by o.has_max_reads_per_strand not-zero
      where
        by : (has : Bool) → (has && eqb o.max_reads_per_strand 0) ≡ false → Formed a (cond has (kept side (under_cap ranks o.max_reads_per_strand side)) side)
        by true more = kept_formed a side _ formed (cap_nonempty ranks o.max_reads_per_strand side (omega (arith, eqb-false o.max_reads_per_strand 0 more)) formed.some)
        by false none = formed

pub length-with_excess : (o : Options) (ranks : List ℤ) (side fates : List ℕ) → length (with_excess o ranks side fates) ≡ length fates
unfolding with_excess
length-with_excess o ranks side fates = by o.has_max_reads_per_strand
  where
    excess : List ℕ
    excess = dropped side (under_cap ranks o.max_reads_per_strand side)

    by : (has : Bool) → length (cond has (given_fate (number_of Downsampled) excess fates) fates) ≡ length fates
    by true = length-given_fate (number_of Downsampled) excess fates
    by false = refl

-- the sides that step 2 enters
module _ (a : Alignments) (names : List ℕ) (verdicts : List Bool) (entered : EnteredAdmissible a names verdicts) (room : length a.flags ≤ 512) where
  pub side_r1_formed : 0 < length (side_r1 a.flags names verdicts) → Formed a (side_r1 a.flags names verdicts)
  side_r1_formed some =
      record {
        some = some;
        few = omega (arith, sides_half a.flags names verdicts, room);
        admissible = λ k h. let own = side_r1_entered a.flags names verdicts k h in entered _ own.0 own.1;
      }

  pub side_r2_formed : 0 < length (side_r1 a.flags names verdicts) → Formed a (side_r2 a.flags names verdicts)
  side_r2_formed some =
      let same = length-side_r2 a.flags names verdicts in
      record {
        some = rw same some;
        few = rw same (omega (arith, sides_half a.flags names verdicts, room));
        admissible = λ k h. let own = side_r2_entered a.flags names verdicts k (rw same at h) in entered _ own.0 own.1;
      }

-- the records of such a side are in every column
module _ (a : Alignments) {side : List ℕ} (formed : Formed a side) where
  pub formed-below : (n : ℕ) → n ≡ length a.flags → Below side n
  formed-below n same k h = rw same (formed.admissible k h).has_flags
