-- Each record of a call that is not refused has a fate of 1 to 13.
use mathlib.Core.List.{List}
use mathlib.Core.Path.{◌≡◌, ◌∙◌}
use Prim.Native.Nat.{ℕ, zero, suc, ◌≤◌, ◌<◌}
use native.Mathlib.Omega.{arith}
use borrow.Author.Tests.{ne_eqb}
use lib.ListN.{length, get_or, length-map}
use Rattle.std.specs.Prelude.{Option, Some, None, Result, Ok, Err}
use Rattle.std.proofs.lemmas.Bool.{cond_both}
use Rattle.std.proofs.lemmas.List.{get_or-map}
use Rattle.caller.specs.Fates.{first_fate}
use Rattle.caller.specs.Reasons.{number_of}
use Rattle.caller.specs.declared.reason.RejectionReason.{RejectionReason}
use Rattle.caller.specs.declared.reason.RejectionReason.TheVariants.{FragmentRead, NotPrimaryFrPair, InsufficientReads, MinorityAlignment, Downsampled, InsufficientOverlap, IndelErrorBetweenStrands, Dovetail, ClipOverlapFailed, HighDuplexDisagreement}
use Rattle.codec_duplex.specs.Columns.{Strand}
use Rattle.codec_duplex.specs.declared.limits.Disagreement.{Disagreement}
use Rattle.codec_duplex.specs.declared.tally.DuplexBaseTally.{DuplexBaseTally}
use Rattle.codec_framing.specs.declared.frame.Frame.{Frame}
use Rattle.codec_rejects.specs.Fates.{settled}
use Rattle.codec_records.specs.declared.options.Options.{Options}
use Rattle.codec_select.specs.declared.selection.Decision.{Decision}
use Rattle.codec_select.specs.declared.selection.Decision.TheVariants as decisions
use Rattle.codec_family.specs.Call.{Call}
use Rattle.codec_family.specs.Ending.{selection, judgement, too_short, by_limits, from_strands, ending_from, ending}
use Rattle.codec_family.specs.Fates.{fate_by, fates, Fated}
use Rattle.codec_family.specs.Refusals.{of_records}
use Rattle.codec_family.specs.declared.ending.Ending.{Ending}
use Rattle.codec_family.specs.declared.ending.Ending.TheVariants as endings
use Rattle.codec_select.proofs.Settled.{SoFar, Ends}
use Rattle.codec_family.proofs.Selected.{selection-settled}

-- a fate of 1 to 13
abbrev IsFate : ℕ → Type 0
IsFate fate = (1 ≤ fate) × (fate ≤ 13)

reason_fate : (reason : RejectionReason) → IsFate (number_of reason)
reason_fate FragmentRead = omega arith
reason_fate NotPrimaryFrPair = omega arith
reason_fate InsufficientReads = omega arith
reason_fate MinorityAlignment = omega arith
reason_fate Downsampled = omega arith
reason_fate InsufficientOverlap = omega arith
reason_fate IndelErrorBetweenStrands = omega arith
reason_fate Dovetail = omega arith
reason_fate ClipOverlapFailed = omega arith
reason_fate HighDuplexDisagreement = omega arith

-- the ending is no refusal
abbrev pub Stands : Ending → Type 0
Stands (endings.Called length) = Unit {0}
Stands endings.Empty = Unit {0}
Stands endings.NoStrand = Unit {0}
Stands (endings.Rejected reason) = Unit {0}
Stands (endings.Disagreeing limit) = Unit {0}
Stands (endings.Refused refusal) = ⊥

abbrev Gives : Ending → Type 0
Gives e = IsFate (fate_by e) × Stands e

-- the limits refuse nothing
limits_fate : (out : Result DuplexBaseTally Disagreement) (n : ℕ) → Gives (by_limits out n)
limits_fate (Ok tally) n = (omega arith, tt)
limits_fate (Err disagreement) n = (omega arith, tt)

strands_fate : (o : Options) (f : Frame) (r1 r2 : Option Strand) → Gives (from_strands o f r1 r2)
unfolding from_strands
strands_fate o f (Some r1) (Some r2) =
    cond_both (too_short f r1.bases r2.bases) _ _ Gives (λ _. (omega arith, tt)) (λ _. limits_fate (judgement o f r1.bases r2.bases) f.length)
strands_fate o f (Some r1) None = (omega arith, tt)
strands_fate o f None r2 = (omega arith, tt)

first_fate_lem : (later fate : ℕ) → IsFate later → fate ≤ 11 → IsFate (first_fate later fate)
first_fate_lem later zero h below = h
first_fate_lem later (suc fate) h below = rw (ne_eqb (suc fate) 0 (λ e. omega arith)) (omega arith)

later-none : (later fate : ℕ) → 1 ≤ fate → fate ≤ 11 → IsFate (first_fate later fate)
later-none later zero some below = absurd (omega arith)
later-none later (suc fate) some below = rw (ne_eqb (suc fate) 0 (λ e. omega arith)) (omega arith)

module _ (o : Options) (r1 r2 : Option Strand) (n : ℕ) (own : List ℕ) where
  by_ending : (d : Decision) → SoFar n own → Ends d n own → (i : ℕ) → i < n → IsFate (first_fate (fate_by (ending_from d o r1 r2)) (get_or own i 0))
  by_ending (decisions.Kept start end length n1 n2) s ends i below = first_fate_lem _ (get_or own i 0) (strands_fate o _ r1 r2).0 (s.1 i below)
  by_ending decisions.Empty s ends i below = later-none _ (get_or own i 0) (ends i below) (s.1 i below)
  by_ending (decisions.Rejected reason) s ends i below = first_fate_lem _ (get_or own i 0) (reason_fate reason) (s.1 i below)
  by_ending (decisions.Refused refusal) s ends i below = absurd ends

  ending-stands : (d : Decision) → Ends d n own → Stands (ending_from d o r1 r2)
  ending-stands (decisions.Kept start end length n1 n2) ends = (strands_fate o _ r1 r2).1
  ending-stands decisions.Empty ends = tt
  ending-stands (decisions.Rejected reason) ends = tt
  ending-stands (decisions.Refused refusal) ends = absurd ends

module _ (c : Call) (none : of_records c ≡ Ok tt) where
  -- steps 1 to 9 refuse nothing
  pub ending-unrefused : Stands (ending c)
  unfolding ending
  ending-unrefused =
      ending-stands c.options c.r1 c.r2 _ _ (selection c).decision (selection-settled c none).ends

  -- each record has a fate
  pub fated : Fated c
  unfolding fates ending settled
  fated =
      let left = selection-settled c none in
      let own = (selection c).fates in
      record {
        one_each = length-map own _ ∙ left.so_far.0;
        decided = λ i below.
            rw (get_or-map (first_fate (fate_by (ending_from (selection c).decision c.options c.r1 c.r2))) own i 0 0 (rw left.so_far.0 below))
            (by_ending c.options c.r1 c.r2 (length c.records) own (selection c).decision left.so_far left.ends i below);
      }
