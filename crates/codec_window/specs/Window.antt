-- Document 01, 'A family', steps 6 and 7: window, phase and length of the longest records of the two sides.
use Rattle.std.specs.Prelude.{Bool, true, false, cond, ℕ, ◌+◌, ◌-◌, min, max, Option, Some, None, Result, Ok, Err, unwrap_or, ℤ, pos, ◌+ℤ◌, ◌-ℤ◌}
use Rattle.std.specs.Int.Signed.{lt_z}
use Rattle.std.specs.Ordering.{int_eq}
use Rattle.raw_bam.specs.Cigar.{reference_length}
use Rattle.raw_bam.specs.ReadPosition.{read_position}
use Rattle.caller.specs.declared.reason.RejectionReason.{RejectionReason}
use Rattle.caller.specs.declared.reason.RejectionReason.TheVariants.{InsufficientOverlap, IndelErrorBetweenStrands, Dovetail}
use Rattle.codec_window.specs.Alignment.{Alignment, alignment_of}
use Rattle.codec_window.specs.declared.window.Aligned.{Aligned}
use Rattle.codec_window.specs.declared.window.Overlap.{Overlap}
use Rattle.codec_window.specs.declared.window.Span.{Span}

abbrev pub alignment : Aligned → Alignment
alignment a = alignment_of a.position a.clipped_length a.ops.now

abbrev pub span : ℕ → ℕ → Span
span first last = record { start = first; end = last }

-- a side spans start to start + reference bases − 1, where length 0 counts as 1
unfoldable pub span_of : Alignment → Span
span_of a = span a.position (a.position + max 1 (reference_length a.ops) - 1)

-- the window: larger start to smaller end
abbrev pub true_window : Span → Span → Span
true_window a b = span (max a.start b.start) (min a.end b.end)

-- the legacy window: negative start to positive end
abbrev pub legacy_window : Span → Span → Span
legacy_window positive negative = span negative.start positive.end

-- the window that is asked for; R1's longest decides which side is negative
abbrev pub window_of : Span → Span → Bool → Bool → Span
window_of r1 r2 r1_negative legacy = cond legacy (cond r1_negative (legacy_window r2 r1) (legacy_window r1 r2)) (true_window r1 r2)

-- end minus start plus one, which may be below zero
abbrev pub window_length : Span → ℤ
window_length window = pos window.end -ℤ pos window.start +ℤ pos 1

abbrev pub below_minimum : Span → ℕ → Bool
below_minimum window minimum = lt_z (window_length window) (pos minimum)

-- a read position, last base asked for; none counts as 0
abbrev pub phase_position : Alignment → ℕ → ℕ
phase_position a position = unwrap_or (read_position true a.ops a.position position) 0

-- R1 minus R2 read position
unfoldable pub phase : Alignment → Alignment → ℕ → ℤ
phase r1 r2 position = pos (phase_position r1 position) -ℤ pos (phase_position r2 position)

-- in phase: the difference is equal at both window ends
unfoldable pub in_phase : Alignment → Alignment → Span → Bool
in_phase r1 r2 window = int_eq (phase r1 r2 window.start) (phase r1 r2 window.end)

-- positive's position + negative's clipped length − negative's position, none where either is none
abbrev pub length_from : Option ℕ → ℕ → Option ℕ → Option ℕ
length_from (Some p) clipped (Some n) = Some (p + clipped - n)
length_from (Some p) clipped None = None
length_from None clipped n = None

-- the length, from the positions at the window's end, no last base
unfoldable pub consensus_length : Alignment → Alignment → ℕ → Option ℕ
consensus_length positive negative last =
    length_from (read_position false positive.ops positive.position last) negative.clipped_length
    (read_position false negative.ops negative.position last)

-- the length in a window where the sides are in phase
unfoldable pub length_in : Alignment → Alignment → Bool → Span → Option ℕ
length_in r1 r2 r1_negative window =
    cond (in_phase r1 r2 window)
    (cond r1_negative (consensus_length r2 r1 window.end) (consensus_length r1 r2 window.end))
    None

-- Dovetail if the true window has a length
abbrev pub dovetail_if : Option ℕ → RejectionReason
dovetail_if (Some n) = Dovetail
dovetail_if None = IndelErrorBetweenStrands

-- out of phase or no length; in legacy, Dovetail if the true window meets the minimum, phase and length
unfoldable pub reason_without_length : Alignment → Alignment → Bool → Bool → ℕ → Span → RejectionReason
reason_without_length r1 r2 r1_negative legacy minimum shared =
    cond legacy
    (cond (below_minimum shared minimum) IndelErrorBetweenStrands (dovetail_if (length_in r1 r2 r1_negative shared)))
    IndelErrorBetweenStrands

-- kept with the window and the length, where there is one
abbrev pub kept_or : Span → Option ℕ → RejectionReason → Result Overlap RejectionReason
kept_or window (Some n) reason = Ok (record { window = window; length = n })
kept_or window None reason = Err reason

-- with the window that is asked for and the true window: below the minimum, InsufficientOverlap
unfoldable pub overlap_in : Alignment → Alignment → Bool → Bool → ℕ → Span → Span → Result Overlap RejectionReason
overlap_in r1 r2 r1_negative legacy minimum window shared =
    cond (below_minimum window minimum) (Err InsufficientOverlap)
    (kept_or window (length_in r1 r2 r1_negative window) (reason_without_length r1 r2 r1_negative legacy minimum shared))

-- steps 6 and 7, of the longest of R1 and the longest of R2
unfoldable pub overlap : Alignment → Alignment → Bool → Bool → ℕ → Result Overlap RejectionReason
overlap r1 r2 r1_negative legacy minimum =
    overlap_in r1 r2 r1_negative legacy minimum (window_of (span_of r1) (span_of r2) r1_negative legacy) (true_window (span_of r1) (span_of r2))
