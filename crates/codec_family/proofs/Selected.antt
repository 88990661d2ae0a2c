-- What steps 1 to 7 leave of a call whose records are not refused.
use mathlib.Core.List.{List}
use mathlib.Core.Path.{◌≡◌, refl, sym, ◌∙◌}
use Prim.Native.Nat.{ℕ, ◌≤◌}
use lib.ListN.{length}
use Rattle.caller.specs.declared.refusal.Refusal.{Refusal}
use Rattle.std.specs.Prelude.{Result, Ok, Err}
use Rattle.codec_select.specs.Alignments.{alignments_of}
use Rattle.codec_records.specs.Records.{column}
use Rattle.codec_select.specs.Steps.{fates_of, refusal_of, selected}
use Rattle.codec_records.specs.declared.records.Record.{Record}
use Rattle.codec_select.specs.declared.selection.Decision.{Decision}
use Rattle.codec_select.specs.declared.selection.Decision.TheVariants as decisions
use Rattle.codec_select.proofs.Measured as measured
use Rattle.codec_select.proofs.Settled as settled
use Rattle.codec_family.specs.Call.{Call}
use Rattle.codec_family.specs.Ending.{selection}
use Rattle.codec_family.specs.Refusals.{of_records, refusal_in}

module _ (c : Call) (none : of_records c ≡ Ok tt) where
  pub few_records : length c.records ≤ 512
  unfolding of_records
  few_records = measured.few_records c.options c.records c.ops none

  pub selection-settled : settled.Settled (length c.records) (selection c)
  unfolding of_records
  selection-settled = settled.selection-settled c.options (length c.records) c.records c.ops none

  pub selection-measured : measured.Measured (selection c).decision
  unfolding of_records
  selection-measured = measured.selection-measured c.options c.records c.ops none

not-refused : (d : Decision) (n : ℕ) (fates : List ℕ) → settled.Ends d n fates → refusal_in d ≡ Ok tt
not-refused (decisions.Kept start end length r1 r2) n fates ends = refl
not-refused decisions.Empty n fates ends = refl
not-refused (decisions.Rejected reason) n fates ends = refl
not-refused (decisions.Refused refusal) n fates ends = absurd ends

-- selection answers the refusal of the records, and no other
pub decision_refusal : (c : Call) → refusal_in (selection c).decision ≡ of_records c
unfolding of_records selected
decision_refusal c = go (refusal_of c.options (length c.records) own (alignments_of c.records c.ops)) refl
  where
    own : List ℕ
    own = fates_of (column Record.flags c.records) (column Record.name c.records) (column Record.verdict c.records)

    go : (r : Result Unit Refusal) → refusal_of c.options (length c.records) own (alignments_of c.records c.ops) ≡ r → refusal_in (selection c).decision ≡ of_records c
    go (Ok done) e = not-refused (selection c).decision _ _ (selection-settled c e).ends ∙ sym e
    go (Err refusal) e = rw e
