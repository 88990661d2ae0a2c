-- Laws of the length and of a pair that is kept.
use mathlib.Core.Bool.{Bool, true, false, cond}
use mathlib.Core.Path.{◌≡◌, refl, sym, ◌∙◌, ap}
use Prim.Native.Nat.{ℕ, ◌+◌, ◌-◌, ◌≤◌, ◌<◌}
use native.Mathlib.Omega.{arith}
use borrow.Author.Tests.{ltb-true, ltb-false}
use lib.Dec.{ltb}
use Rattle.std.proofs.Common.{Option, Some, None, Ok, Err}
use Rattle.raw_bam.specs.Cigar.{reference_length}
use Rattle.raw_bam.specs.ReadPosition.{read_position}
use Rattle.raw_bam.proofs.Positions.{position-within, position-before, position_past}
use Rattle.caller.specs.declared.reason.RejectionReason.{RejectionReason}
use Rattle.caller.specs.declared.reason.RejectionReason.TheVariants.{InsufficientOverlap}
use Rattle.codec_window.specs.Alignment.{Alignment, Admitted}
use Rattle.codec_window.specs.Window.{span_of, true_window, window_of, below_minimum, in_phase, length_from, consensus_length, length_in, reason_without_length, kept_or, overlap_in, overlap}
use Rattle.codec_window.specs.declared.window.Overlap.{Overlap}
use Rattle.codec_window.specs.declared.window.Span.{Span}

-- the window that is asked for
abbrev pub asked : Alignment → Alignment → Bool → Bool → Span
asked r1 r2 r1_negative legacy = window_of (span_of r1) (span_of r2) r1_negative legacy

-- a reference position inside an alignment
abbrev pub Covers : Alignment → ℕ → Type 0
Covers a position = (a.position ≤ position) × (position < a.position + reference_length a.ops)

none_some : {n : ℕ} → ◌≡◌ {A = Option ℕ} None (Some n) → ⊥
none_some e = cc

-- where there is a read position, the alignment covers the reference position
covered : (a : Alignment) (position p : ℕ) → read_position false a.ops a.position position ≡ Some p → Covers a position
covered a position p e = (not-before (ltb position a.position) refl, not_past (ltb position (a.position + reference_length a.ops)) refl)
  where
    not-before : (t : Bool) → ltb position a.position ≡ t → a.position ≤ position
    not-before true h = absurd (none_some (sym (position-before false a.ops a.position position (ltb-true _ _ h)) ∙ e))
    not-before false h = ltb-false _ _ h

    not_past : (t : Bool) → ltb position (a.position + reference_length a.ops) ≡ t → position < a.position + reference_length a.ops
    not_past true h = ltb-true _ _ h
    not_past false h = absurd (none_some (sym (position_past false a.ops a.position position (ltb-false _ _ h)) ∙ e))

-- a length is 1 to 2,047, and both alignments cover the window's end
pub record Measured (a b : Alignment) (last n : ℕ) : Type 0 where
  pub some : 1 ≤ n
  pub few : n ≤ 2047
  pub first : Covers a last
  pub second : Covers b last

measured : (positive negative : Alignment) → Admitted positive → Admitted negative → (last n : ℕ) → consensus_length positive negative last ≡ Some n → Measured positive negative last n
unfolding consensus_length
measured positive negative h k last n e = from (read_position false positive.ops positive.position last) (read_position false negative.ops negative.position last) refl refl e
  where
    from : (p q : Option ℕ) → read_position false positive.ops positive.position last ≡ p → read_position false negative.ops negative.position last ≡ q → length_from p negative.clipped_length q ≡ Some n → Measured positive negative last n
    from (Some p) (Some q) a b l =
        let in-first = position-within false positive.ops positive.position last p a in
        let in-second = position-within false negative.ops negative.position last q b in
        let is : p + negative.clipped_length - q ≡ n = cc in
        record {
          some = omega arith;
          few = omega arith;
          first = covered positive last p a;
          second = covered negative last q b;
        }
    from (Some p) None a b l = absurd (none_some l)
    from None q a b l = absurd (none_some l)

-- what is kept has a length
kept_from : (below : Bool) (window : Span) (bases : Option ℕ) (reason : RejectionReason) (o : Overlap)
    → cond below (Err InsufficientOverlap) (kept_or window bases reason) ≡ Ok o
    → (window ≡ o.window) × (bases ≡ Some o.length)
kept_from true window bases reason o e = let z : ◌≡◌ {A = ℕ} 0 1 = cc in absurd (omega arith)
kept_from false window (Some m) reason o e = let is : record { window = window; length = m } ≡ o = cc in (ap (λ (x : Overlap). x.window) is, ap (λ (x : Overlap). Some x.length) is)
kept_from false window None reason o e = let z : ◌≡◌ {A = ℕ} 0 1 = cc in absurd (omega arith)

module _ (r1 r2 : Alignment) (h : Admitted r1) (k : Admitted r2) where
  pub length-measured : (r1_negative : Bool) (window : Span) (n : ℕ) → length_in r1 r2 r1_negative window ≡ Some n → Measured r1 r2 window.end n
  unfolding length_in
  length-measured r1_negative window n e = by r1_negative (in_phase r1 r2 window) e
    where
      by : (negative phased : Bool)
          → cond phased (cond negative (consensus_length r2 r1 window.end) (consensus_length r1 r2 window.end)) None ≡ Some n
          → Measured r1 r2 window.end n
      by true true e = let m = measured r2 r1 k h window.end n e in record { some = m.some; few = m.few; first = m.second; second = m.first }
      by false true e = measured r1 r2 h k window.end n e
      by negative false e = absurd (none_some e)

  module _ (r1_negative legacy : Bool) (minimum : ℕ) (o : Overlap) (kept : overlap r1 r2 r1_negative legacy minimum ≡ Ok o) where
    -- a pair is kept with the window that is asked for, and its length there
    pub kept_window : (asked r1 r2 r1_negative legacy ≡ o.window) × (length_in r1 r2 r1_negative (asked r1 r2 r1_negative legacy) ≡ Some o.length)
    unfolding overlap overlap_in
    kept_window =
        kept_from (below_minimum (asked r1 r2 r1_negative legacy) minimum) (asked r1 r2 r1_negative legacy) (length_in r1 r2 r1_negative (asked r1 r2 r1_negative legacy))
        (reason_without_length r1 r2 r1_negative legacy minimum (true_window (span_of r1) (span_of r2))) o kept

    pub kept-measured : Measured r1 r2 o.window.end o.length
    kept-measured = length-measured r1_negative o.window o.length (rw kept_window.0 at kept_window.1)
