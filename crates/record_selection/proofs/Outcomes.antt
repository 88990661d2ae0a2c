-- Laws of an outcome: what holds of each record of the sides that step 2 enters holds of each that stays.
use mathlib.Core.Bool.{Bool, ◌||◌}
use mathlib.Core.List.{List, []}
use Prim.Native.Nat.{ℕ, ◌<◌}
use native.Mathlib.Nat.{not-suc-le-zero}
use lib.Dec.{eqb}
use lib.IntN.{ℤ}
use lib.ListN.{length, get_or}
use Rattle.std.proofs.lemmas.Bool.{cond_both}
use Rattle.codec_pairing.proofs.Entered.{length-side_r2, Entered, side_r1_entered, side_r2_entered}
use Rattle.codec_pairing.specs.Pairing.{side_r1, side_r2}
use Rattle.caller.specs.declared.refusal.Refusal.{Refusal}
use Rattle.std.specs.Prelude.{Result, Ok, Err}
use Rattle.codec_select.specs.Alignments.{Alignments}
use Rattle.codec_records.specs.Records.{Below}
use Rattle.codec_sides.specs.Side.{under_cap, capped}
use Rattle.codec_select.specs.Steps.{Course, too_few, is_in_group, cap_is_zero, overlapping, is_kept, from_window, from_cap, from_sides, unless_refused, fates_of, refusal_of, selected}
use Rattle.codec_records.specs.declared.options.Options.{Options}
use Rattle.codec_records.proofs.Kept.{kept_each}

module _ (P : ℕ → Type 0) where
  abbrev pub Each : List ℕ → Type 0
  Each side = (k : ℕ) → k < length side → P (get_or side k 0)

  abbrev pub Both : Course → Type 0
  Both outcome = Each outcome.r1 × Each outcome.r2

  none_each : Each []
  none_each k h = absurd (not-suc-le-zero h)

  module _ (o : Options) (ranks : List ℤ) (a : Alignments) where
    capped_each : (side : List ℕ) → Each side → Each (capped o ranks side)
    unfolding capped
    capped_each side holds = cond_both o.has_max_reads_per_strand _ _ Each (λ _. kept_each P side (under_cap ranks o.max_reads_per_strand side) holds) (λ _. holds)

    module _ (r1 r2 fates : List ℕ) (holds1 : Each r1) (holds2 : Each r2) where
      window_each : Both (from_window o a r1 r2 fates)
      unfolding from_window
      window_each =
          let keeps = is_kept (overlapping o a r1 r2) in
          (cond_both keeps _ _ Each (λ _. holds1) (λ _. none_each), cond_both keeps _ _ Each (λ _. holds2) (λ _. none_each))

    module _ (r1 r2 fates : List ℕ) (holds1 : Each r1) (holds2 : Each r2) where
      cap_each : Both (from_cap o ranks a r1 r2 fates)
      unfolding from_cap
      cap_each =
          cond_both (too_few o r1 || too_few o r2 || cap_is_zero o) _ _ Both (λ _. (none_each, none_each))
          (λ _. window_each (capped o ranks r1) (capped o ranks r2) _ (capped_each r1 holds1) (capped_each r2 holds2))

    module _ (r1 r2 fates : List ℕ) (holds1 : Each r1) (holds2 : Each r2) where
      sides_each : Both (from_sides o ranks a r1 r2 fates)
      unfolding from_sides
      sides_each =
          cond_both (eqb (length r1) 0) _ _ Both (λ _. (none_each, none_each))
          (λ _. cond_both (too_few o r1) _ _ Both (λ _. (none_each, none_each))
          (λ _. cap_each _ _ _ (kept_each P r1 (is_in_group a r1) holds1) (kept_each P r2 (is_in_group a r2) holds2)))

  unless_each : (refusal : Result Unit Refusal) (fates : List ℕ) (outcome : Course) → Both outcome → Both (unless_refused refusal fates outcome)
  unless_each (Ok done) fates outcome holds = holds
  unless_each (Err why) fates outcome holds = (none_each, none_each)

module _ (o : Options) (count : ℕ) (names : List ℕ) (verdicts : List Bool) (ranks : List ℤ) (a : Alignments) where
  -- each is entered
  pub outcome_entered : Both (Entered a.flags names verdicts) (selected o count names verdicts ranks a)
  unfolding selected
  outcome_entered =
      let fates = fates_of a.flags names verdicts in
      let same = length-side_r2 a.flags names verdicts in
      unless_each (Entered a.flags names verdicts) (refusal_of o count fates a) fates _
      (sides_each (Entered a.flags names verdicts) o ranks a (side_r1 a.flags names verdicts) (side_r2 a.flags names verdicts) fates
      (side_r1_entered a.flags names verdicts)
      (λ k h. side_r2_entered a.flags names verdicts k (rw same at h)))

  pub outcome-below : Below (selected o count names verdicts ranks a).r1 (length a.flags) × Below (selected o count names verdicts ranks a).r2 (length a.flags)
  outcome-below = (λ k h. (outcome_entered.0 k h).0, λ k h. (outcome_entered.1 k h).0)
