-- What the contract says of one call: it is refused and leaves the ledger, or its ending is that of the steps and the ledger gains what it counts.
use mathlib.Core.Bool.{true, false}
use mathlib.Core.Path.{◌≡◌, sym, ◌∙◌, ap}
use Rattle.lists.specs.Written.{written}
use Rattle.std.specs.Prelude.{Result, Ok, is_err}
use Rattle.caller.specs.declared.refusal.Refusal.{Refusal}
use Rattle.codec_rejects.specs.Handover.{mark_words}
use Rattle.codec_rejects.proofs.Marking.{marked_at, marked_ones}
use Rattle.codec_stats.specs.Ledger.{plus}
use Rattle.codec_stats.specs.declared.ledger.Ledger.{Ledger}
use Rattle.codec_family.specs.Answer.{reported, says_refused}
use Rattle.codec_family.specs.Counted.{counted, after_call}
use Rattle.codec_family.specs.Ending.{ending}
use Rattle.codec_family.specs.FamilyCalled.{ending_with, marks_after, Results}
use Rattle.codec_family.specs.Fates.{fates, Fated}
use Rattle.codec_family.specs.Refusals.{refusal, of_records}
use Rattle.caller.proofs.Refusals.{accepted}
use Rattle.codec_family.proofs.Answering.{refused_as}
use Rattle.codec_family.proofs.Refusing.{records_stand, call_stands}
use Rattle.codec_family.proofs.Selected.{few_records}
use Rattle.codec_family.proofs.Settled.{ending-unrefused, fated}
use Rattle.codec_conservation.specs.Chain.{Made, Handed}
use Rattle.codec_conservation.specs.Conserved.{Marked}

-- what a call that is not refused does
pub record Taken (m : Made) : Type 0 where
  pub records_stand : of_records m.call ≡ Ok tt
  pub ended : m.answer.ending ≡ reported (ending m.call)
  pub marked_words : m.after.marks ≡ written (mark_words (fates m.call)) m.before.marks

-- the results of a call, by a refusal that looks at its records
module _ (m : Made) (r : Result Unit Refusal) (results : Results m.call r m.before m.answer m.after) (looks : r ≡ Ok tt → of_records m.call ≡ Ok tt) where
  pub answered_refused : says_refused m.answer.ending ≡ is_err r
  unfolding ending_with
  answered_refused = ap says_refused results.ended ∙ refused_as r (ending m.call) (λ none. ending-unrefused m.call (looks none))

  pub taken_by : r ≡ Ok tt → Taken m
  unfolding ending_with marks_after
  taken_by none =
      record {
        records_stand = looks none;
        ended = results.ended ∙ rw none;
        marked_words = results.marks ∙ rw none;
      }

module _ {ledger : Ledger} {m : Made} (handed : Handed ledger m) where
  looks_at_records : refusal m.call ledger ≡ Ok tt → of_records m.call ≡ Ok tt
  looks_at_records none = records_stand m.call (call_stands m.call ledger none)

  is_refused : says_refused m.answer.ending ≡ is_err (refusal m.call ledger)
  is_refused = answered_refused m (refusal m.call ledger) handed.contract.results looks_at_records

  -- refused: the ledger is the one that was handed over
  pub left_alone : says_refused m.answer.ending ≡ true → m.answer.ledger ≡ ledger
  unfolding after_call
  left_alone e = handed.contract.ledger_after ∙ rw (sym is_refused ∙ e)

  -- not refused: the ledger gains what the call counts
  pub unrefused : says_refused m.answer.ending ≡ false → refusal m.call ledger ≡ Ok tt
  unrefused e = accepted _ (sym is_refused ∙ e)

  pub added : says_refused m.answer.ending ≡ false → m.answer.ledger ≡ plus ledger (counted m.call)
  unfolding after_call
  added e = handed.contract.ledger_after ∙ rw (unrefused e)

  pub taken : says_refused m.answer.ending ≡ false → Taken m
  taken e = taken_by m (refusal m.call ledger) handed.contract.results looks_at_records (unrefused e)

module _ {m : Made} (t : Taken m) where
  pub taken_fated : Fated m.call
  taken_fated = fated m.call t.records_stand

  pub taken_marked : Marked m.call m.after.marks
  taken_marked =
      rw t.marked_words
      (record {
        exactly = λ i below. marked_at (fates m.call) m.before.marks i below;
        as_many = marked_ones (fates m.call) m.before.marks (rw taken_fated.one_each (few_records m.call t.records_stand));
      })
