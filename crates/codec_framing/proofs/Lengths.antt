-- Every column of the strands and of the duplex in a frame is as long as the frame says.
use mathlib.Core.Bool.{Bool, not}
use mathlib.Core.Path.{◌≡◌, ◌∙◌}
use Prim.Native.Nat.{ℕ}
use lib.ListN.{length}
use Rattle.lists.proofs.Tabulate.{length-tabulate}
use Rattle.codec_duplex.specs.Columns.{Strand, field_at, combined_column, HasLength}
use Rattle.codec_duplex.specs.Duplex.{Duplex}
use Rattle.codec_duplex.specs.declared.position.Position.{Position}
use Rattle.codec_strands.specs.Strands.{oriented, padded_strand, Within}
use Rattle.codec_strands.specs.declared.mask.Masks.{Masks}
use Rattle.codec_strands.proofs.Orientation.{length-turned, length-turned_bases, length-turned-padded, length_bases_padded}
use Rattle.codec_strands.proofs.StrandLaws.{length-masked}
use Rattle.codec_framing.specs.Framing.{padded_r1, padded_r2, masked_duplex, combined_strands, duplex_of, strand_r1, strand_r2}
use Rattle.codec_framing.specs.declared.frame.Frame.{Frame}

-- every column has n places
pub record DuplexLong (n : ℕ) (d : Duplex) : Type 0 where
  pub bases : length d.bases ≡ n
  pub quals : length d.quals ≡ n
  pub depths : length d.depths ≡ n
  pub errors : length d.errors ≡ n

long_oriented : (reversed : Bool) (n : ℕ) (s : Strand) → HasLength n s → HasLength n (oriented reversed s)
long_oriented reversed n s long =
    record {
      bases = length-turned_bases reversed s.bases ∙ long.bases;
      quals = length-turned reversed s.quals ∙ long.quals;
      depths = length-turned reversed s.depths ∙ long.depths;
      errors = length-turned reversed s.errors ∙ long.errors;
    }

long_padded : (reversed left : Bool) (n : ℕ) (s : Strand) → Within n s → HasLength n (padded_strand left n (oriented reversed s))
long_padded reversed left n s within =
    record {
      bases = length_bases_padded reversed left n s.bases within.bases;
      quals = length-turned-padded reversed left 0 n s.quals within.quals;
      depths = length-turned-padded reversed left 0 n s.depths within.depths;
      errors = length-turned-padded reversed left 0 n s.errors within.errors;
    }

module _ (f : Frame) (s : Strand) (within : Within f.length s) where
  pub long_padded_r1 : HasLength f.length (padded_r1 f s)
  unfolding padded_r1
  long_padded_r1 = long_padded f.r1_is_negative f.r1_is_negative f.length s within

  pub long_padded_r2 : HasLength f.length (padded_r2 f s)
  unfolding padded_r2
  long_padded_r2 = long_padded (not f.r1_is_negative) f.r2_is_negative f.length s within

  pub long_strand_r1 : HasLength f.length (strand_r1 f s)
  unfolding strand_r1
  long_strand_r1 = long_oriented f.r1_is_negative f.length (padded_r1 f s) long_padded_r1

  pub long_strand_r2 : HasLength f.length (strand_r2 f s)
  unfolding strand_r2
  long_strand_r2 = long_oriented f.r1_is_negative f.length (padded_r2 f s) long_padded_r2

pub length-column : (field : Position → ℕ) (a b : Strand) → length (combined_column field a b) ≡ length a.bases
unfolding combined_column
length-column field a b = length-tabulate (field_at field a b) (length a.bases)

module _ (masks : Masks) (f : Frame) (r1 r2 : Strand) (within : Within f.length r1) where
  pub long_combined_strands : DuplexLong f.length (combined_strands masks f r1 r2)
  unfolding combined_strands masked_duplex
  long_combined_strands =
      let a = padded_r1 f r1 in
      let b = padded_r2 f r2 in
      let long = (long_padded_r1 f r1 within).bases in
      record {
        bases = length-column Position.base a b ∙ long;
        quals = length-masked masks a.bases b.bases (combined_column Position.quality a b) ∙ length-column Position.quality a b ∙ long;
        depths = length-column Position.depth a b ∙ long;
        errors = length-column Position.error a b ∙ long;
      }

  pub long_duplex_of : DuplexLong f.length (duplex_of masks f r1 r2)
  unfolding duplex_of
  long_duplex_of =
      let d = combined_strands masks f r1 r2 in
      let long = long_combined_strands in
      let reversed = f.r1_is_negative in
      record {
        bases = length-turned_bases reversed d.bases ∙ long.bases;
        quals = length-turned reversed d.quals ∙ long.quals;
        depths = length-turned reversed d.depths ∙ long.depths;
        errors = length-turned reversed d.errors ∙ long.errors;
      }
