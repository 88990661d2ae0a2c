-- Document 01, 'A family', steps 8 and 9: how a family ends, and the columns of its duplex.
use Rattle.std.specs.Prelude.{Bool, true, false, cond, ◌||◌, List, ℕ, ltb, length, Option, Some, None, Result, Ok, Err}
use Rattle.std.specs.Bool.{then_some}
use Rattle.caller.specs.declared.reason.RejectionReason.TheVariants.{ClipOverlapFailed}
use Rattle.codec_duplex.specs.Columns.{Strand}
use Rattle.codec_duplex.specs.Duplex.{Duplex}
use Rattle.codec_duplex.specs.Limits.{judged}
use Rattle.codec_strands.specs.declared.mask.Masks.{Masks}
use Rattle.codec_duplex.specs.declared.limits.Disagreement.{Disagreement}
use Rattle.codec_duplex.specs.declared.tally.DuplexBaseTally.{DuplexBaseTally}
use Rattle.codec_framing.specs.Framing as framing
use Rattle.codec_framing.specs.declared.frame.Frame.{Frame}
use Rattle.codec_select.specs.Selection.{course_of}
use Rattle.codec_select.specs.Steps.{Course}
use Rattle.codec_records.specs.declared.options.Options.{Options}
use Rattle.codec_select.specs.declared.selection.Decision.{Decision}
use Rattle.codec_select.specs.declared.selection.Decision.TheVariants as decisions
use Rattle.codec_family.specs.Call.{Call, columns_of}
use Rattle.codec_family.specs.declared.ending.Ending.{Ending}
use Rattle.codec_family.specs.declared.ending.Ending.TheVariants.{Called, Empty, NoStrand, Rejected, Disagreeing, Refused}
use Rattle.codec_family.specs.declared.ending.Verdict.{Verdict}

abbrev pub is_called : Ending → Bool
is_called (Called length) = true
is_called Empty = false
is_called NoStrand = false
is_called (Rejected reason) = false
is_called (Disagreeing limit) = false
is_called (Refused refusal) = false

abbrev pub is_refused : Ending → Bool
is_refused (Refused refusal) = true
is_refused _ = false

-- the length of a duplex that is called
abbrev pub called_length : Ending → ℕ
called_length (Called length) = length
called_length Empty = 0
called_length NoStrand = 0
called_length (Rejected reason) = 0
called_length (Disagreeing limit) = 0
called_length (Refused refusal) = 0

-- steps 1 to 7
abbrev pub selection : Call → Course
selection c = course_of c.options (length c.records) c.records c.ops

-- step 7's length, and whether R1's and R2's longest have flag 16
abbrev pub frame_of : Decision → Frame
frame_of (decisions.Kept start end length r1 r2) = record { length = length; r1_is_negative = r1; r2_is_negative = r2 }
frame_of decisions.Empty = record { length = 0; r1_is_negative = false; r2_is_negative = false }
frame_of (decisions.Rejected reason) = record { length = 0; r1_is_negative = false; r2_is_negative = false }
frame_of (decisions.Refused refusal) = record { length = 0; r1_is_negative = false; r2_is_negative = false }

abbrev pub frame : Call → Frame
frame c = frame_of (selection c).decision

-- step 9: the two limits on the positions that both strands' bases call and those of them where they differ
unfoldable pub judgement : Options → Frame → (r1 r2 : List ℕ) → Result DuplexBaseTally Disagreement
judgement o f r1 r2 = judged (framing.tally_of f r1 r2) o.max_duplex_disagreements o.max_duplex_disagreement_rate

-- step 8: 'Length below a strand's'
abbrev pub too_short : Frame → (r1 r2 : List ℕ) → Bool
too_short f r1 r2 = ltb f.length (length r1) || ltb f.length (length r2)

-- step 9: 'HighDuplexDisagreement', by the count or by the rate, or the duplex is called
abbrev pub by_limits : Result DuplexBaseTally Disagreement → ℕ → Ending
by_limits (Ok tally) length = Called length
by_limits (Err disagreement) length = Disagreeing disagreement

-- steps 8 and 9 of a family that step 7 leaves; 'R1's or R2's strand absent: no strand'
unfoldable pub from_strands : Options → Frame → (r1 r2 : Option Strand) → Ending
from_strands o f (Some r1) (Some r2) =
    cond (too_short f r1.bases r2.bases) (Rejected ClipOverlapFailed)
    (by_limits (judgement o f r1.bases r2.bases) f.length)
from_strands o f (Some r1) None = NoStrand
from_strands o f None r2 = NoStrand

-- how the family goes on from step 7, or how it ended before
abbrev pub ending_from : Decision → Options → (r1 r2 : Option Strand) → Ending
ending_from (decisions.Kept start end length n1 n2) o r1 r2 =
    from_strands o (record { length = length; r1_is_negative = n1; r2_is_negative = n2 }) r1 r2
ending_from decisions.Empty o r1 r2 = Empty
ending_from (decisions.Rejected reason) o r1 r2 = Rejected reason
ending_from (decisions.Refused refusal) o r1 r2 = Refused refusal

-- how steps 1 to 9 end the family
unfoldable pub ending : Call → Ending
ending c = ending_from (selection c).decision c.options c.r1 c.r2

-- the tallies of two strands that are both there
abbrev pub tally_between : Frame → (r1 r2 : Option Strand) → DuplexBaseTally
tally_between f r1 r2 = framing.tally_of f (columns_of r1).bases (columns_of r2).bases

-- the tallies count where the duplex is called
abbrev pub tally_where : Ending → DuplexBaseTally → DuplexBaseTally
tally_where e tally = record { bases = cond (is_called e) tally.bases 0; disagreements = cond (is_called e) tally.disagreements 0 }

-- how the family ends, and these tallies
abbrev pub verdict_of : Ending → DuplexBaseTally → Verdict
verdict_of e tally = record { ending = e; tally = tally_where e tally }

-- 'duplex bases' and 'disagreements' of the family
abbrev pub tally : Call → DuplexBaseTally
tally c = tally_where (ending c) (tally_between (frame c) c.r1 c.r2)

abbrev pub masks_of : Options → Masks
masks_of o =
    record {
      outer_length = o.outer_bases_length;
      outer_quality = then_some o.has_outer_bases_qual o.outer_bases_qual;
      single_strand_quality = then_some o.has_single_strand_qual o.single_strand_qual;
    }

-- the columns of a family that is called
abbrev pub duplex_of : Call → Duplex
duplex_of c = framing.duplex_of (masks_of c.options) (frame c) (columns_of c.r1) (columns_of c.r2)

abbrev pub strand_r1 : Call → Strand
strand_r1 c = framing.strand_r1 (frame c) (columns_of c.r1)

abbrev pub strand_r2 : Call → Strand
strand_r2 c = framing.strand_r2 (frame c) (columns_of c.r2)
