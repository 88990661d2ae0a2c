-- A family that is called: its strands fit its length, which is at most 2,047.
use mathlib.Core.Bool.{Bool, true, false, cond, false≢true}
use mathlib.Core.Path.{◌≡◌, refl, sym, ◌∙◌, ap}
use Prim.Native.Nat.{ℕ, ◌≤◌}
use native.Mathlib.Omega.{arith}
use borrow.Author.Tests.{ltb-false}
use lib.Dec.{ltb}
use lib.ListN.{length}
use Rattle.std.specs.Prelude.{Option, Some, None, is_some, Result, Ok, Err}
use Rattle.std.proofs.lemmas.Bool.{or_parts}
use Rattle.lists.specs.Count.{count_below}
use Rattle.caller.specs.declared.reason.RejectionReason.TheVariants.{ClipOverlapFailed}
use Rattle.codec_duplex.specs.Columns.{Strand}
use Rattle.codec_duplex.specs.declared.limits.Disagreement.{Disagreement}
use Rattle.codec_duplex.specs.declared.tally.DuplexBaseTally.{DuplexBaseTally}
use Rattle.codec_duplex.specs.Tally.{both_call, disagree, tallied}
use Rattle.codec_framing.specs.Framing.{padded_r1, padded_r2}
use Rattle.codec_framing.specs.declared.frame.Frame.{Frame}
use Rattle.codec_framing.proofs.Tallies.{tally_of-padded}
use Rattle.codec_strands.proofs.Orientation.{length_bases_padded}
use Rattle.codec_records.specs.declared.options.Options.{Options}
use Rattle.codec_select.specs.declared.selection.Decision.{Decision}
use Rattle.codec_select.specs.declared.selection.Decision.TheVariants as decisions
use Rattle.codec_family.specs.Call.{Call, columns_of}
use Rattle.codec_family.specs.Ending.{is_called, called_length, selection, frame_of, frame, judgement, too_short, by_limits, from_strands, ending_from, tally_between, ending}
use Rattle.codec_family.specs.Refusals.{of_records}
use Rattle.codec_family.specs.declared.ending.Ending.{Ending}
use Rattle.codec_family.specs.declared.ending.Ending.TheVariants as endings
use Rattle.codec_select.proofs.Measured.{Measured}
use Rattle.codec_family.proofs.Selected.{selection-measured}

-- both strands are present and no longer than the duplex, whose length is the answered one
pub record Fits (f : Frame) (r1 r2 : Option Strand) (e : Ending) : Type 0 where
  pub has_r1 : is_some r1 ≡ true
  pub has_r2 : is_some r2 ≡ true
  pub r1_fits : length (columns_of r1).bases ≤ f.length
  pub r2_fits : length (columns_of r2).bases ≤ f.length
  pub long : called_length e ≡ f.length

limits_length : (out : Result DuplexBaseTally Disagreement) (n : ℕ) → is_called (by_limits out n) ≡ true → called_length (by_limits out n) ≡ n
limits_length (Ok tally) n e = refl
limits_length (Err disagreement) n e = absurd (false≢true e)

strands_fit : (o : Options) (f : Frame) (r1 r2 : Option Strand) → is_called (from_strands o f r1 r2) ≡ true → Fits f r1 r2 (from_strands o f r1 r2)
unfolding from_strands
strands_fit o f (Some r1) (Some r2) e = go (too_short f r1.bases r2.bases) refl e
  where
    go : (short : Bool) → too_short f r1.bases r2.bases ≡ short → is_called (cond short (endings.Rejected ClipOverlapFailed) (by_limits (judgement o f r1.bases r2.bases) f.length)) ≡ true
        → Fits f (Some r1) (Some r2) (cond short (endings.Rejected ClipOverlapFailed) (by_limits (judgement o f r1.bases r2.bases) f.length))
    go true s e = absurd (false≢true e)
    go false s e =
        let both = or_parts (ltb f.length (length r1.bases)) (ltb f.length (length r2.bases)) s in
        record {
          has_r1 = refl;
          has_r2 = refl;
          r1_fits = ltb-false f.length (length r1.bases) both.0;
          r2_fits = ltb-false f.length (length r2.bases) both.1;
          long = limits_length (judgement o f r1.bases r2.bases) f.length e;
        }
strands_fit o f (Some r1) None e = absurd (false≢true e)
strands_fit o f None r2 e = absurd (false≢true e)

ending_fits : (d : Decision) (o : Options) (r1 r2 : Option Strand) → is_called (ending_from d o r1 r2) ≡ true → Fits (frame_of d) r1 r2 (ending_from d o r1 r2)
ending_fits (decisions.Kept start end length n1 n2) o r1 r2 e = strands_fit o _ r1 r2 e
ending_fits decisions.Empty o r1 r2 e = absurd (false≢true e)
ending_fits (decisions.Rejected reason) o r1 r2 e = absurd (false≢true e)
ending_fits (decisions.Refused refusal) o r1 r2 e = absurd (false≢true e)

-- a family that is called is kept by selection, and has room for both strands
pub called_fits : (c : Call) → is_called (ending c) ≡ true → Fits (frame c) c.r1 c.r2 (ending c)
unfolding ending
called_fits c e = ending_fits (selection c).decision c.options c.r1 c.r2 e

uncalled_length : (e : Ending) → is_called e ≡ false → called_length e ≡ 0
uncalled_length (endings.Called length) e = absurd (false≢true (sym e))
uncalled_length endings.Empty e = refl
uncalled_length endings.NoStrand e = refl
uncalled_length (endings.Rejected reason) e = refl
uncalled_length (endings.Disagreeing limit) e = refl
uncalled_length (endings.Refused refusal) e = refl

-- what is kept is at most 2,047 long
frame_short : (d : Decision) → Measured d → (frame_of d).length ≤ 2047
frame_short (decisions.Kept start end length r1 r2) m = m.1
frame_short decisions.Empty m = omega arith
frame_short (decisions.Rejected reason) m = omega arith
frame_short (decisions.Refused refusal) m = omega arith

module _ (c : Call) (none : of_records c ≡ Ok tt) where
  pub short_frame : (frame c).length ≤ 2047
  short_frame = frame_short (selection c).decision (selection-measured c none)

  pub called_short : called_length (ending c) ≤ 2047
  called_short = go (is_called (ending c)) refl
    where
      go : (b : Bool) → is_called (ending c) ≡ b → called_length (ending c) ≤ 2047
      go true e = omega (arith, (called_fits c e).long, short_frame)
      go false e = rw (uncalled_length (ending c) e) (omega arith)

-- R1's padded strand is as long as the duplex
first_length : (f : Frame) (s : Strand) → length s.bases ≤ f.length → length (padded_r1 f s).bases ≡ f.length
unfolding padded_r1
first_length f s h = length_bases_padded f.r1_is_negative f.r1_is_negative f.length s.bases h

-- the tallies are those of the duplex's positions
pub called-tally : (c : Call) → is_called (ending c) ≡ true →
    let a = (padded_r1 (frame c) (columns_of c.r1)).bases in
    let b = (padded_r2 (frame c) (columns_of c.r2)).bases in
    let t = tally_between (frame c) c.r1 c.r2 in
    (t.bases ≡ count_below (both_call a b) (called_length (ending c))) × (t.disagreements ≡ count_below (disagree a b) (called_length (ending c)))
unfolding tallied
called-tally c e =
    let a = (padded_r1 (frame c) (columns_of c.r1)).bases in
    let b = (padded_r2 (frame c) (columns_of c.r2)).bases in
    let fits = called_fits c e in
    let size = first_length (frame c) (columns_of c.r1) fits.r1_fits ∙ sym fits.long in
    rw (tally_of-padded (frame c) (columns_of c.r1) (columns_of c.r2)) (ap (count_below (both_call a b)) size, ap (count_below (disagree a b)) size)
