-- Document 01, 'A family', steps 3 to 7. A side is the list of its record numbers, in given order.
use Rattle.std.specs.Prelude.{Bool, true, false, cond, ◌&&◌, ◌||◌, List, [], ◌≡◌, ℕ, eqb, ltb, ℤ, length, get_or, Result, Ok, Err}
use Rattle.lists.specs.Tabulate.{tabulate}
use Rattle.caller.specs.Reasons.{number_of}
use Rattle.caller.specs.declared.reason.RejectionReason.{RejectionReason}
use Rattle.caller.specs.declared.reason.RejectionReason.TheVariants.{InsufficientReads, MinorityAlignment}
use Rattle.raw_bam.specs.Flags.{reverse_flag, has_flag}
use Rattle.codec_select.specs.Alignments.{Alignments, alignment_of}
use Rattle.codec_pairing.specs.Pairing.{fate_of, side_r1, side_r2}
use Rattle.codec_pairing.specs.Refusals.{reads, first_refusal}
use Rattle.codec_records.specs.Side.{kept}
use Rattle.codec_sides.specs.Side.{in_group, dropped, given_fate, capped, with_excess, longest_of}
use Rattle.codec_window.specs.Window.{alignment, overlap}
use Rattle.codec_records.specs.declared.options.Options.{Options}
use Rattle.codec_select.specs.declared.overlapping.Longest.{Longest}
use Rattle.caller.specs.declared.refusal.Refusal.{Refusal}
use Rattle.codec_select.specs.declared.selection.Decision.{Decision}
use Rattle.codec_select.specs.declared.selection.Decision.TheVariants as decisions
use Rattle.codec_records.specs.declared.side.Sides.{Sides}
use Rattle.codec_window.specs.declared.window.Overlap.{Overlap}

-- what the steps make of a family: how they end, the records of each side that stay where it is kept, and the fate of each record so far
pub record Course : Type 0 where
  pub decision : Decision
  pub r1 : List ℕ
  pub r2 : List ℕ
  pub fates : List ℕ

-- a family that ends here: nothing is kept
abbrev pub ended : Decision → List ℕ → Course
ended decision fates = record { decision = decision; r1 = []; r2 = []; fates = fates }

abbrev pub too_few : Options → List ℕ → Bool
too_few o side = ltb (length side) o.min_reads_per_strand

-- step 4: for each record of a side whether it is in the alignment group
unfoldable pub is_in_group : Alignments → List ℕ → List Bool
is_in_group a side = in_group a.ops a.clipped a.starts a.counts a.flags side

abbrev pub grouped : Alignments → List ℕ → List ℕ
grouped a side = kept side (is_in_group a side)

-- the others are MinorityAlignment
abbrev pub with_minority : Alignments → List ℕ → List ℕ → List ℕ
with_minority a side fates = given_fate (number_of MinorityAlignment) (dropped side (is_in_group a side)) fates

-- step 5: 'Cap 0'
abbrev pub cap_is_zero : Options → Bool
cap_is_zero o = o.has_max_reads_per_strand && eqb o.max_reads_per_strand 0

-- step 6: the longest record of a side
unfoldable pub longest_record : Alignments → List ℕ → ℕ
longest_record a side = get_or side (longest_of a.ops a.starts a.counts side) 0

-- the longest has flag 16
unfoldable pub is_negative : Alignments → List ℕ → Bool
is_negative a side = has_flag (get_or a.flags (longest_record a side) 0) reverse_flag

-- what steps 6 and 7 look at of a side
pub record IsLongest (a : Alignments) (side : List ℕ) (longest : Longest) : Type 0 where
  pub aligned : alignment longest.aligned ≡ alignment_of a (longest_record a side)
  pub orientation : longest.is_negative ≡ is_negative a side

-- how steps 6 and 7 end the family
abbrev pub decision_of : Result Overlap RejectionReason → Bool → Bool → Decision
decision_of (Ok o) r1_negative r2_negative = decisions.Kept o.window.start o.window.end o.length r1_negative r2_negative
decision_of (Err reason) r1_negative r2_negative = decisions.Rejected reason

-- steps 6 and 7
unfoldable pub overlapping : Options → Alignments → List ℕ → List ℕ → Decision
overlapping o a r1 r2 =
    decision_of
    (overlap (alignment_of a (longest_record a r1)) (alignment_of a (longest_record a r2)) (is_negative a r1) o.legacy_overlap_window o.min_duplex_length)
    (is_negative a r1) (is_negative a r2)

abbrev pub is_kept : Decision → Bool
is_kept (decisions.Kept start end length r1_negative r2_negative) = true
is_kept decisions.Empty = false
is_kept (decisions.Rejected reason) = false
is_kept (decisions.Refused refusal) = false

-- a family that is kept keeps the records of its sides, any other none
abbrev pub concluded : Decision → List ℕ → List ℕ → List ℕ → Course
concluded decision r1 r2 fates = record { decision = decision; r1 = cond (is_kept decision) r1 []; r2 = cond (is_kept decision) r2 []; fates = fates }

-- steps 6 and 7, of the sides that step 5 leaves
unfoldable pub from_window : Options → Alignments → List ℕ → List ℕ → List ℕ → Course
from_window o a r1 r2 fates = concluded (overlapping o a r1 r2) r1 r2 fates

-- the end of step 4, of both sides, and step 5
unfoldable pub from_cap : Options → List ℤ → Alignments → List ℕ → List ℕ → List ℕ → Course
from_cap o ranks a r1 r2 fates =
    cond (too_few o r1 || too_few o r2 || cap_is_zero o) (ended (decisions.Rejected InsufficientReads) fates)
    (from_window o a (capped o ranks r1) (capped o ranks r2) (with_excess o ranks r2 (with_excess o ranks r1 fates)))

-- steps 3 and 4, of the sides that step 2 enters
unfoldable pub from_sides : Options → List ℤ → Alignments → List ℕ → List ℕ → List ℕ → Course
from_sides o ranks a r1 r2 fates =
    cond (eqb (length r1) 0) (ended decisions.Empty fates)
    (cond (too_few o r1) (ended (decisions.Rejected InsufficientReads) fates)
    (from_cap o ranks a (grouped a r1) (grouped a r2) (with_minority a r2 (with_minority a r1 fates))))

-- a refusal comes before all steps
abbrev pub unless_refused : Result Unit Refusal → List ℕ → Course → Course
unless_refused (Ok done) fates outcome = outcome
unless_refused (Err refusal) fates outcome = ended (decisions.Refused refusal) fates

-- the fates after steps 1 and 2
abbrev pub fates_of : List ℕ → List ℕ → List Bool → List ℕ
fates_of flags names verdicts = tabulate (fate_of flags names verdicts) (length flags)

-- refusals 1 to 6 of a number of records
abbrev pub refusal_of : Options → ℕ → List ℕ → Alignments → Result Unit Refusal
refusal_of o records fates a =
    first_refusal o.min_duplex_length records (reads fates a.clipped a.positions a.starts a.counts a.ops)

-- steps 1 to 7 of a family, given by how many records it has and by their columns
unfoldable pub selected : Options → ℕ → List ℕ → List Bool → List ℤ → Alignments → Course
selected o records names verdicts ranks a =
    unless_refused (refusal_of o records (fates_of a.flags names verdicts) a) (fates_of a.flags names verdicts)
    (from_sides o ranks a (side_r1 a.flags names verdicts) (side_r2 a.flags names verdicts) (fates_of a.flags names verdicts))

-- an outcome: the decision, the fates, and each side
pub record CourseIn (outcome : Course) (decision : Decision) (fates : List ℕ) (sides : Sides) : Type 0 where
  pub decision_is : decision ≡ outcome.decision
  pub fates_are : fates ≡ outcome.fates
  pub r1_is : sides.r1 ≡ outcome.r1
  pub r2_is : sides.r2 ≡ outcome.r2
