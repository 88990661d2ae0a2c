-- The fates that steps 1 to 7 leave, where nothing is refused.
use mathlib.Core.Bool.{Bool, true, false, cond, not, ◌||◌}
use mathlib.Core.List.{List}
use mathlib.Core.Path.{◌≡◌, refl, sym, ◌∙◌, ap}
use Prim.Native.Nat.{ℕ, zero, suc, ◌≤◌, ◌<◌}
use native.Mathlib.Omega.{arith}
use borrow.Author.Tests.{eqb-true}
use lib.Dec.{eqb}
use lib.IntN.{ℤ}
use lib.ListN.{length, get_or, length-map}
use Rattle.std.proofs.lemmas.Bool.{cond_both}
use Rattle.lists.specs.Member.{is_in}
use Rattle.lists.proofs.Tabulate.{length-tabulate, get_d_tabulate}
use Rattle.caller.specs.Fates.{undecided_number}
use Rattle.raw_bam.specs.Flags.{paired_flag, has_flag}
use Rattle.codec_window.specs.Window.{overlap}
use Rattle.std.proofs.Common.{Result, Ok, Err}
use Rattle.caller.specs.declared.reason.RejectionReason.{RejectionReason}
use Rattle.codec_window.specs.declared.window.Overlap.{Overlap}
use Rattle.codec_pairing.specs.Pairing.{fate_of, is_entered, not_primary, side_r1, side_r2}
use Rattle.codec_pairing.specs.Refusals.{is_undecided}
use Rattle.codec_pairing.proofs.Entered.{entered_in}
use Rattle.codec_pairing.proofs.Undecided.{undecided_entered}
use Rattle.codec_select.specs.Alignments.{Alignments, alignment_of, alignments_of}
use Rattle.codec_records.specs.Records.{column}
use Rattle.codec_select.specs.Selection.{course_of}
use Rattle.codec_sides.specs.Side.{given_fate, under_cap, dropped, with_excess, capped}
use Rattle.codec_select.specs.Steps.{Course, too_few, cap_is_zero, is_in_group, with_minority, grouped, longest_record, is_negative, decision_of, overlapping, from_window, from_cap, from_sides, fates_of, refusal_of, selected}
use Rattle.codec_records.specs.declared.options.Options.{Options}
use Rattle.codec_records.specs.declared.records.Record.{Record}
use Rattle.codec_select.specs.declared.selection.Decision.{Decision}
use Rattle.codec_select.specs.declared.selection.Decision.TheVariants as decisions
use Rattle.codec_sides.proofs.Keeping.{length-given_fate, get_d-given_fate}

-- a fate so far: undecided, a reason, or passed over
abbrev pub SoFar : ℕ → List ℕ → Type 0
SoFar n fates = (length fates ≡ n) × ((i : ℕ) → i < n → get_or fates i 0 ≤ 11)

-- an empty family leaves no record undecided; the steps refuse nothing
abbrev pub Ends : Decision → ℕ → List ℕ → Type 0
Ends (decisions.Kept start end length r1 r2) n fates = Unit {0}
Ends decisions.Empty n fates = (i : ℕ) → i < n → 1 ≤ get_or fates i 0
Ends (decisions.Rejected reason) n fates = Unit {0}
Ends (decisions.Refused refusal) n fates = ⊥

pub record Settled (n : ℕ) (outcome : Course) : Type 0 where
  pub so_far : SoFar n outcome.fates
  pub ends : Ends outcome.decision n outcome.fates

fate_so_far : (n fate : ℕ) (records fates : List ℕ) → fate ≤ 11 → SoFar n fates → SoFar n (given_fate fate records fates)
fate_so_far n fate records fates h s = (
  length-given_fate fate records fates ∙ s.0,
  λ i below.
      rw (get_d-given_fate fate records fates i 0 (rw s.0 below))
      (cond_both (is_in i records) _ _ (λ own. own ≤ 11)
      (λ _. cond_both (eqb (get_or fates i 0) undecided_number) _ _ (λ own. own ≤ 11) (λ _. h) (λ _. s.1 i below))
      (λ _. s.1 i below)),
)

of_flags : (paired aside entered : Bool) → cond (not paired) 1 (cond aside 11 (cond entered 0 2)) ≤ 11
of_flags false aside entered = omega arith
of_flags true true entered = omega arith
of_flags true false true = omega arith
of_flags true false false = omega arith

module _ (flags names : List ℕ) (verdicts : List Bool) where
  -- steps 1 and 2
  first_so_far : SoFar (length flags) (fates_of flags names verdicts)
  unfolding fate_of
  first_so_far = (
    length-tabulate (fate_of flags names verdicts) (length flags),
    λ i below.
        rw (get_d_tabulate (fate_of flags names verdicts) (length flags) i 0 below)
        (of_flags (has_flag (get_or flags i 0) paired_flag) (not_primary (get_or flags i 0)) (is_entered flags names verdicts i)),
  )

  -- step 3: where no record is entered, each has a fate
  none-undecided : length (side_r1 flags names verdicts) ≡ 0 → (i : ℕ) → i < length flags → 1 ≤ get_or (fates_of flags names verdicts) i 0
  none-undecided none i below =
      rw (get_d_tabulate (fate_of flags names verdicts) (length flags) i 0 below) (go (fate_of flags names verdicts i) refl)
    where
      go : (fate : ℕ) → fate_of flags names verdicts i ≡ fate → 1 ≤ fate
      go zero e =
          let own = entered_in flags names verdicts i (below, sym (undecided_entered flags names verdicts i) ∙ ap is_undecided e) in
          absurd (omega (arith, own.1))
      go (suc fate) e = omega arith

ends_window : (o : Result Overlap RejectionReason) (r1 r2 : Bool) (n : ℕ) (fates : List ℕ) → Ends (decision_of o r1 r2) n fates
ends_window (Ok kept) r1 r2 n fates = tt
ends_window (Err reason) r1 r2 n fates = tt

module _ (o : Options) (ranks : List ℤ) (a : Alignments) (n : ℕ) where
  minority_so_far : (side fates : List ℕ) → SoFar n fates → SoFar n (with_minority a side fates)
  minority_so_far side fates s = fate_so_far n 4 (dropped side (is_in_group a side)) fates (omega arith) s

  excess_so_far : (side fates : List ℕ) → SoFar n fates → SoFar n (with_excess o ranks side fates)
  unfolding with_excess
  excess_so_far side fates s =
      cond_both o.has_max_reads_per_strand _ _ (SoFar n)
      (λ _. fate_so_far n 5 (dropped side (under_cap ranks o.max_reads_per_strand side)) fates (omega arith) s)
      (λ _. s)

  window_settled : (r1 r2 fates : List ℕ) → SoFar n fates → Settled n (from_window o a r1 r2 fates)
  unfolding from_window overlapping
  window_settled r1 r2 fates s =
      let ended = overlap (alignment_of a (longest_record a r1)) (alignment_of a (longest_record a r2)) (is_negative a r1) o.legacy_overlap_window o.min_duplex_length in
      record { so_far = s; ends = ends_window ended (is_negative a r1) (is_negative a r2) n fates }

  cap_settled : (r1 r2 fates : List ℕ) → SoFar n fates → Settled n (from_cap o ranks a r1 r2 fates)
  unfolding from_cap
  cap_settled r1 r2 fates s =
      cond_both (too_few o r1 || too_few o r2 || cap_is_zero o) _ _ (Settled n)
      (λ _. record { so_far = s; ends = tt })
      (λ _. window_settled (capped o ranks r1) (capped o ranks r2) _ (excess_so_far r2 _ (excess_so_far r1 fates s)))

  sides_settled : (r1 r2 fates : List ℕ) → SoFar n fates → (length r1 ≡ 0 → (i : ℕ) → i < n → 1 ≤ get_or fates i 0) → Settled n (from_sides o ranks a r1 r2 fates)
  unfolding from_sides
  sides_settled r1 r2 fates s none =
      cond_both (eqb (length r1) 0) _ _ (Settled n)
      (λ e. record { so_far = s; ends = none (eqb-true (length r1) 0 e) })
      (λ _.
      cond_both (too_few o r1) _ _ (Settled n)
      (λ _. record { so_far = s; ends = tt })
      (λ _. cap_settled (grouped a r1) (grouped a r2) _ (minority_so_far r2 _ (minority_so_far r1 fates s))))

-- each record has a fate of at most 11, and an empty family leaves none undecided
pub selection-settled : (o : Options) (count : ℕ) (records : List Record) (ops : List ℕ)
    → refusal_of o count (fates_of (column Record.flags records) (column Record.name records) (column Record.verdict records)) (alignments_of records ops) ≡ Ok tt
    → Settled (length records) (course_of o count records ops)
unfolding selected
selection-settled o count records ops none =
    let flags = column Record.flags records in
    let names = column Record.name records in
    let verdicts = column Record.verdict records in
    let size : length flags ≡ length records = length-map records Record.flags in
    rw (none, ← size)
    (sides_settled o (column Record.rank records) (alignments_of records ops) (length flags) (side_r1 flags names verdicts) (side_r2 flags names verdicts) (fates_of flags names verdicts)
    (first_so_far flags names verdicts) (none-undecided flags names verdicts))
