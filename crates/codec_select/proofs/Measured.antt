-- A family that is kept has a length of 1 to 2,047.
use mathlib.Core.Bool.{◌||◌}
use mathlib.Core.List.{List}
use mathlib.Core.Path.{◌≡◌, refl, sym, ◌∙◌}
use Prim.Native.Nat.{ℕ, ◌≤◌, ◌<◌}
use native.Mathlib.Omega.{arith}
use borrow.Author.Tests.{eqb-false}
use lib.Dec.{eqb}
use lib.IntN.{ℤ}
use lib.ListN.{length, length-map}
use Rattle.std.proofs.lemmas.Bool.{cond_both, or_parts}
use Rattle.std.specs.Prelude.{Ok}
use Rattle.codec_window.proofs.Lengths.{kept-measured}
use Rattle.codec_window.specs.Alignment.{Alignment, Admitted}
use Rattle.codec_window.specs.Window.{overlap}
use Rattle.std.proofs.Common.{Result, Ok, Err}
use Rattle.caller.specs.declared.reason.RejectionReason.{RejectionReason}
use Rattle.codec_window.specs.declared.window.Overlap.{Overlap}
use Rattle.codec_pairing.specs.Pairing.{side_r1, side_r2}
use Rattle.codec_pairing.specs.Refusals.{reads}
use Rattle.codec_select.specs.Alignments.{Alignments, alignment_of, alignments_of, Formed}
use Rattle.codec_records.specs.Records.{column}
use Rattle.codec_select.specs.Selection.{course_of}
use Rattle.codec_sides.specs.Side.{longest_of, capped}
use Rattle.codec_select.specs.Steps.{Course, too_few, cap_is_zero, grouped, longest_record, is_negative, decision_of, overlapping, from_window, from_cap, from_sides, fates_of, refusal_of, selected}
use Rattle.codec_records.specs.declared.options.Options.{Options}
use Rattle.codec_records.specs.declared.records.Record.{Record}
use Rattle.codec_select.specs.declared.selection.Decision.{Decision}
use Rattle.codec_select.specs.declared.selection.Decision.TheVariants as decisions
use Rattle.codec_sides.proofs.Most.{longest_within}
use Rattle.codec_select.proofs.Admitting.{Alike, entered_admissible}
use Rattle.codec_select.proofs.Formed.{grouped_formed, capped_formed, side_r1_formed, side_r2_formed}
use Rattle.codec_select.proofs.Sound.{within_limits_lem}

-- the length of what is kept
abbrev pub Measured : Decision → Type 0
Measured (decisions.Kept start end length r1 r2) = (1 ≤ length) × (length ≤ 2047)
Measured decisions.Empty = Unit {0}
Measured (decisions.Rejected reason) = Unit {0}
Measured (decisions.Refused refusal) = Unit {0}

module _ (o : Options) (ranks : List ℤ) (a : Alignments) where
  longest_admitted : (side : List ℕ) → Formed a side → Admitted (alignment_of a (longest_record a side))
  unfolding longest_record
  longest_admitted side formed =
      (formed.admissible (longest_of a.ops a.starts a.counts side) (longest_within a.ops a.starts a.counts side formed.some)).admitted

  window_measured : (r1 r2 fates : List ℕ) → Formed a r1 → Formed a r2 → Measured (from_window o a r1 r2 fates).decision
  unfolding from_window overlapping
  window_measured r1 r2 fates f1 f2 = go (overlap first second (is_negative a r1) o.legacy_overlap_window o.min_duplex_length) refl
    where
      first : Alignment
      first = alignment_of a (longest_record a r1)

      second : Alignment
      second = alignment_of a (longest_record a r2)

      go : (w : Result Overlap RejectionReason) → overlap first second (is_negative a r1) o.legacy_overlap_window o.min_duplex_length ≡ w → Measured (decision_of w (is_negative a r1) (is_negative a r2))
      go (Ok kept) e =
          let own = kept-measured first second (longest_admitted r1 f1) (longest_admitted r2 f2) (is_negative a r1) o.legacy_overlap_window o.min_duplex_length kept e in
          (own.some, own.few)
      go (Err reason) e = tt

  cap_measured : (r1 r2 fates : List ℕ) → Formed a r1 → Formed a r2 → Measured (from_cap o ranks a r1 r2 fates).decision
  unfolding from_cap
  cap_measured r1 r2 fates f1 f2 =
      cond_both (too_few o r1 || too_few o r2 || cap_is_zero o) _ _ (λ (out : Course). Measured out.decision) (λ _. tt)
      (λ e.
      let none = (or_parts (too_few o r1 || too_few o r2) (cap_is_zero o) e).1 in
      window_measured (capped o ranks r1) (capped o ranks r2) _ (capped_formed a r1 o ranks none f1) (capped_formed a r2 o ranks none f2))

  sides_measured : (r1 r2 fates : List ℕ) → (0 < length r1 → Formed a r1 × Formed a r2) → Measured (from_sides o ranks a r1 r2 fates).decision
  unfolding from_sides
  sides_measured r1 r2 fates formed =
      cond_both (eqb (length r1) 0) _ _ (λ (out : Course). Measured out.decision) (λ _. tt)
      (λ e.
      let both = formed (omega (arith, eqb-false (length r1) 0 e)) in
      cond_both (too_few o r1) _ _ (λ (out : Course). Measured out.decision) (λ _. tt)
      (λ _. cap_measured (grouped a r1) (grouped a r2) _ (grouped_formed a r1 both.0) (grouped_formed a r2 both.1)))

-- the columns of some records are equally long
pub records_alike : (records : List Record) (ops : List ℕ) → Alike (alignments_of records ops)
records_alike records ops =
    let size = sym (length-map records Record.flags) in
    record {
      as_many_clipped = length-map records Record.clipped ∙ size;
      as_many_positions = length-map records Record.position ∙ size;
      as_many_starts = length-map records Record.start ∙ size;
      as_many_counts = length-map records Record.count ∙ size;
    }

module _ (o : Options) (records : List Record) (ops : List ℕ) (none : refusal_of o (length records) (fates_of (column Record.flags records) (column Record.name records) (column Record.verdict records)) (alignments_of records ops) ≡ Ok tt) where
  pub few_records : length records ≤ 512
  few_records =
      let a = alignments_of records ops in
      let fates = fates_of (column Record.flags records) (column Record.name records) (column Record.verdict records) in
      (within_limits_lem o.min_duplex_length (length records) (reads fates a.clipped a.positions a.starts a.counts a.ops) none).1

  pub selection-measured : Measured (course_of o (length records) records ops).decision
  unfolding selected
  selection-measured =
      let flags = column Record.flags records in
      let names = column Record.name records in
      let verdicts = column Record.verdict records in
      let a = alignments_of records ops in
      let few : length flags ≤ 512 = rw (length-map records Record.flags) few_records in
      let entered = entered_admissible a names verdicts o.min_duplex_length (length records) (records_alike records ops) none in
      rw none
      (sides_measured o (column Record.rank records) a (side_r1 flags names verdicts) (side_r2 flags names verdicts) (fates_of flags names verdicts)
      (λ some. (side_r1_formed a names verdicts entered few some, side_r2_formed a names verdicts entered few some)))
