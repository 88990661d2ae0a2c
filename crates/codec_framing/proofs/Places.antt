-- What stands in lent columns: strands that are written, their duplex, and both turned round where they were written.
use mathlib.Core.Bool.{Bool}
use mathlib.Core.List.{List}
use mathlib.Core.Path.{◌≡◌, ◌∙◌, ap, ap₂}
use Prim.Native.Nat.{ℕ}
use native.Mathlib.Omega.{arith}
use lib.ListN.{length, take}
use Rattle.lists.specs.Written.{written}
use Rattle.lists.proofs.Written.{take-written, written_again}
use Rattle.codec_duplex.specs.Columns.{Strand, strand, HasLength}
use Rattle.codec_duplex.specs.Duplex.{Duplex, duplex, written_duplex}
use Rattle.codec_duplex.specs.Lent.{first_places}
use Rattle.codec_strands.specs.Masks.{masked}
use Rattle.codec_strands.specs.Strands.{turned, turned_bases, oriented, written_strand}
use Rattle.codec_strands.specs.declared.mask.Masks.{Masks}
use Rattle.codec_strands.proofs.Orientation.{length-turned, length-turned_bases}
use Rattle.codec_strands.proofs.StrandLaws.{same_columns, length-masked}
use Rattle.codec_framing.specs.Framing.{padded_r1, padded_r2, masked_duplex, combined_strands, duplex_of, strand_r1, strand_r2, Framable, Framed}
use Rattle.codec_framing.specs.declared.frame.Frame.{Frame}
use Rattle.codec_framing.proofs.Lengths.{DuplexLong, long_padded_r1, long_padded_r2, long_combined_strands}

pub same-duplex : {bases bases' quals quals' depths depths' errors errors' : List ℕ} → bases ≡ bases' → quals ≡ quals' → depths ≡ depths' → errors ≡ errors'
    → duplex bases quals depths errors ≡ duplex bases' quals' depths' errors'
same-duplex b q d e = rw (b, q, d, e)

-- qualities that are written, and then masked where they were written
pub masked-written : (masks : Masks) (a b : List ℕ) (n : ℕ) (quals old : List ℕ) {mid after : List ℕ} → length quals ≡ n
    → mid ≡ written quals old
    → after ≡ written (masked masks a b (take n mid)) mid
    → after ≡ written (masked masks a b quals) old
masked-written masks a b n quals old size put mask =
    mask ∙ rw (put, take-written quals old n size) (written_again quals (masked masks a b quals) old (omega (arith, length-masked masks a b quals)))

-- a column that is written, and whose places are then turned round
turned-column : {A : Type 0} (reversed : Bool) (n : ℕ) (xs old : List A) → length xs ≡ n
    → written (turned reversed (take n (written xs old))) (written xs old) ≡ written (turned reversed xs) old
turned-column reversed n xs old long =
    rw (take-written xs old n long) (written_again xs (turned reversed xs) old (omega (arith, length-turned reversed xs)))

turned_bases_lem : (reversed : Bool) (n : ℕ) (xs old : List ℕ) → length xs ≡ n
    → written (turned_bases reversed (take n (written xs old))) (written xs old) ≡ written (turned_bases reversed xs) old
turned_bases_lem reversed n xs old long =
    rw (take-written xs old n long) (written_again xs (turned_bases reversed xs) old (omega (arith, length-turned_bases reversed xs)))

module _ (n : ℕ) (s before : Strand) {mid : Strand} (long : HasLength n s) (put : mid ≡ written_strand s before) where
  -- the strand is read again from where it was written
  first_written : first_places n mid ≡ s
  first_written =
      ap (first_places n) put
      ∙ same_columns
      (take-written s.bases before.bases n long.bases)
      (take-written s.quals before.quals n long.quals)
      (take-written s.depths before.depths n long.depths)
      (take-written s.errors before.errors n long.errors)

  -- it is turned round where it was written
  turned-written : (reversed : Bool) {after : Strand} → after ≡ written_strand (oriented reversed (first_places n mid)) mid
      → after ≡ written_strand (oriented reversed s) before
  turned-written reversed turn =
      turn
      ∙ ap (λ (m : Strand). written_strand (oriented reversed (first_places n m)) m) put
      ∙ same_columns
      (turned_bases_lem reversed n s.bases before.bases long.bases)
      (turned-column reversed n s.quals before.quals long.quals)
      (turned-column reversed n s.depths before.depths long.depths)
      (turned-column reversed n s.errors before.errors long.errors)

-- the same four columns
abbrev as_strand : Duplex → Strand
as_strand d = strand d.bases d.quals d.depths d.errors

abbrev as_duplex : Strand → Duplex
as_duplex s = duplex s.bases s.quals s.depths s.errors

long_columns : {n : ℕ} {d : Duplex} → DuplexLong n d → HasLength n (as_strand d)
long_columns long = record { bases = long.bases; quals = long.quals; depths = long.depths; errors = long.errors }

module _ (masks : Masks) {f : Frame} {r1 r2 : Strand} {d : Duplex} {s1 s2 : Strand} (fits : Framable f r1 r2 d s1 s2) where
  -- where the padded strands were written
  module _ {mid1 mid2 : Strand} (put1 : mid1 ≡ written_strand (padded_r1 f r1) s1) (put2 : mid2 ≡ written_strand (padded_r2 f r2) s2) where
    -- and where their duplex was
    module _ {bases quals depths errors : List ℕ} (put : duplex bases quals depths errors ≡ written_duplex (masked_duplex masks (first_places f.length mid1) (first_places f.length mid2)) d) where
      combined-written : duplex bases quals depths errors ≡ written_duplex (combined_strands masks f r1 r2) d
      unfolding combined_strands
      combined-written =
          put
          ∙ ap₂ (λ (a b : Strand). written_duplex (masked_duplex masks a b) d)
          (first_written f.length (padded_r1 f r1) s1 (long_padded_r1 f r1 fits.r1) put1)
          (first_written f.length (padded_r2 f r2) s2 (long_padded_r2 f r2 fits.r2) put2)

      -- all three are turned back by the same test
      pub framed : {bases' quals' depths' errors' : List ℕ} {after1 after2 : Strand}
          → strand bases' quals' depths' errors' ≡ written_strand (oriented f.r1_is_negative (first_places f.length (strand bases quals depths errors))) (strand bases quals depths errors)
          → after1 ≡ written_strand (oriented f.r1_is_negative (first_places f.length mid1)) mid1
          → after2 ≡ written_strand (oriented f.r1_is_negative (first_places f.length mid2)) mid2
          → Framed f masks r1 r2 d (duplex bases' quals' depths' errors') s1 after1 s2 after2
      unfolding duplex_of strand_r1 strand_r2
      framed turn turn1 turn2 =
          record {
            duplex =
                ap as_duplex
                (turned-written f.length (as_strand (combined_strands masks f r1 r2)) (as_strand d) (long_columns (long_combined_strands masks f r1 r2 fits.r1))
                (ap as_strand combined-written) f.r1_is_negative turn);
            s1 = turned-written f.length (padded_r1 f r1) s1 (long_padded_r1 f r1 fits.r1) put1 f.r1_is_negative turn1;
            s2 = turned-written f.length (padded_r2 f r2) s2 (long_padded_r2 f r2 fits.r2) put2 f.r1_is_negative turn2;
          }
