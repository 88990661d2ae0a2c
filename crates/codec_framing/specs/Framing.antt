-- Document 01, 'A family', step 9: the strands of a duplex, its tallies and its columns. A frame has step 7's length, and
-- whether R1's longest and R2's longest have flag 16.
use Rattle.std.specs.Prelude.{Bool, not, List, ◌≡◌, ℕ}
use Rattle.codec_duplex.specs.Columns.{Strand, combined_column, HasRoom}
use Rattle.codec_duplex.specs.Duplex.{Duplex, duplex, written_duplex}
use Rattle.codec_duplex.specs.Tally.{tallied}
use Rattle.codec_duplex.specs.declared.position.Position.{Position}
use Rattle.codec_duplex.specs.declared.tally.DuplexBaseTally.{DuplexBaseTally}
use Rattle.codec_strands.specs.Masks.{masked}
use Rattle.codec_strands.specs.Strands.{turned, turned_bases, oriented, laid, laid_bases, written_strand, Within, StrandRoom}
use Rattle.codec_strands.specs.declared.layout.Layout.{Layout}
use Rattle.codec_strands.specs.declared.mask.Masks.{Masks}
use Rattle.codec_framing.specs.declared.frame.Frame.{Frame}

-- 'If R1 is negative its strand is reverse complemented'; 'padded on the left if its own side's longest has flag 16'
abbrev pub layout_r1 : Frame → Layout
layout_r1 f = record { length = f.length; reversed = f.r1_is_negative; left = f.r1_is_negative }

-- 'otherwise R2's'
abbrev pub layout_r2 : Frame → Layout
layout_r2 f = record { length = f.length; reversed = not f.r1_is_negative; left = f.r2_is_negative }

unfoldable pub padded_r1 : Frame → Strand → Strand
padded_r1 f s = laid (layout_r1 f) s

unfoldable pub padded_r2 : Frame → Strand → Strand
padded_r2 f s = laid (layout_r2 f) s

-- the same of bases alone
unfoldable pub padded_bases_r1 : Frame → List ℕ → List ℕ
padded_bases_r1 f bases = laid_bases (layout_r1 f) bases

unfoldable pub padded_bases_r2 : Frame → List ℕ → List ℕ
padded_bases_r2 f bases = laid_bases (layout_r2 f) bases

-- the positions that both strands call as step 9 combines them, and those of them where the bases differ
unfoldable pub tally_of : Frame → (r1 r2 : List ℕ) → DuplexBaseTally
tally_of f r1 r2 = tallied (padded_bases_r1 f r1) (padded_bases_r2 f r2)

-- the duplex of two padded strands, masked
unfoldable pub masked_duplex : Masks → (a b : Strand) → Duplex
masked_duplex masks a b =
    duplex
    (combined_column Position.base a b)
    (masked masks a.bases b.bases (combined_column Position.quality a b))
    (combined_column Position.depth a b)
    (combined_column Position.error a b)

-- 'Combine with R1 first: … mask'
unfoldable pub combined_strands : Masks → Frame → (r1 r2 : Strand) → Duplex
combined_strands masks f r1 r2 = masked_duplex masks (padded_r1 f r1) (padded_r2 f r2)

-- reverse complement exchanges the bases and reverses all columns
abbrev pub oriented_duplex : (reversed : Bool) → Duplex → Duplex
oriented_duplex reversed d =
    duplex (turned_bases reversed d.bases) (turned reversed d.quals) (turned reversed d.depths) (turned reversed d.errors)

-- 'If R1 is negative, reverse complement the duplex and both padded strands'
unfoldable pub duplex_of : Masks → Frame → (r1 r2 : Strand) → Duplex
duplex_of masks f r1 r2 = oriented_duplex f.r1_is_negative (combined_strands masks f r1 r2)

unfoldable pub strand_r1 : Frame → Strand → Strand
strand_r1 f r1 = oriented f.r1_is_negative (padded_r1 f r1)

unfoldable pub strand_r2 : Frame → Strand → Strand
strand_r2 f r2 = oriented f.r1_is_negative (padded_r2 f r2)

-- no strand is longer than the duplex, and no result is shorter
pub record Framable (f : Frame) (first second : Strand) (lent : Duplex) (lent1 lent2 : Strand) : Type 0 where
  pub r1 : Within f.length first
  pub r2 : Within f.length second
  pub duplex : HasRoom f.length lent
  pub s1 : StrandRoom f.length lent1
  pub s2 : StrandRoom f.length lent2

-- the duplex and both padded strands fill the first positions of four columns each
pub record Framed (f : Frame) (masks : Masks) (first second : Strand) (before after : Duplex) (before1 after1 before2 after2 : Strand) : Type 0 where
  pub duplex : after ≡ written_duplex (duplex_of masks f first second) before
  pub s1 : after1 ≡ written_strand (strand_r1 f first) before1
  pub s2 : after2 ≡ written_strand (strand_r2 f second) before2
