-- What a refusal comes to: nothing is written, and the ledger is the one that was handed over.
use mathlib.Core.Bool.{false, cond}
use mathlib.Core.List.{List}
use mathlib.Core.Path.{◌≡◌, refl}
use Prim.Native.Nat.{ℕ}
use Rattle.lists.specs.Written.{written}
use Rattle.lists.specs.Numbers.{numbers_from}
use Rattle.std.specs.Prelude.{Result, Ok, Err}
use Rattle.std.specs.Result.{result_map_both}
use Rattle.caller.specs.declared.refusal.LedgerRefusal.{LedgerRefusal}
use Rattle.caller.specs.declared.refusal.Refusal.{Refusal}
use Rattle.caller.specs.declared.refusal.Refusal.TheVariants as refusals
use Rattle.caller.proofs.Refusals.{passed, both_passed}
use Rattle.codec_rejects.specs.Handover.{mark_words, handover, listed_records, listed_reasons}
use Rattle.codec_stats.specs.Ledger.{too_large, checked, of_counts, plus}
use Rattle.codec_stats.specs.declared.ledger.Ledger.{Ledger}
use Rattle.codec_family.specs.Answer.{reported_answer}
use Rattle.codec_family.specs.Call.{Call, Lent}
use Rattle.codec_family.specs.Counted.{counted, after_call}
use Rattle.codec_family.specs.Ending.{is_called, ending}
use Rattle.codec_family.specs.FamilyCalled.{ending_with, refused_answer, fates_with, marks_after, column_after, Results, FamilyCalled}
use Rattle.codec_family.specs.Fates.{fates}
use Rattle.codec_family.specs.Refusals.{refusal, of_call, of_records}

-- a call that is not refused is not refused for its records
pub records_stand : (c : Call) → of_call c ≡ Ok tt → of_records c ≡ Ok tt
unfolding of_call
records_stand c none = (both_passed (of_records c) _ none).0

pub call_stands : (c : Call) (ledger : Ledger) → refusal c ledger ≡ Ok tt → of_call c ≡ Ok tt
unfolding refusal
call_stands c ledger none = (both_passed (of_call c) _ none).0

-- a ledger that is not refused is not too large
as_ledger : (r : Result Unit LedgerRefusal) → result_map_both (λ done. done) refusals.Ledger r ≡ Ok tt → r ≡ Ok tt
as_ledger (Ok done) e = refl
as_ledger (Err why) e = cc

pub small_ledger : (l : Ledger) → of_counts l ≡ Ok tt → too_large l ≡ false
unfolding of_counts
small_ledger l stands = (passed (too_large l) _ _ (as_ledger (checked l) stands)).0

-- 'A refusal leaves everything as it was'
module _ (c : Call) (lent : Lent) (ledger : Ledger) (why : Refusal) where
  untouched : (result old : List ℕ) → old ≡ column_after c (Err why) result old
  unfolding column_after ending_with
  untouched result old = refl

  pub refused_results : Results c (Err why) lent (reported_answer (refused_answer ledger why)) lent
  unfolding ending_with fates_with marks_after handover listed_records listed_reasons numbers_from
  refused_results =
      record {
        ended = refl;
        marks = refl;
        list_length = refl;
        list_records = refl;
        list_reasons = refl;
        duplex_bases = untouched _ _;
        duplex_quals = untouched _ _;
        duplex-depths = untouched _ _;
        duplex_errors = untouched _ _;
        r1_bases = untouched _ _;
        r1_quals = untouched _ _;
        r1_depths = untouched _ _;
        r1_errors = untouched _ _;
        r2_bases = untouched _ _;
        r2_quals = untouched _ _;
        r2_depths = untouched _ _;
        r2_errors = untouched _ _;
      }

  pub refused_call : refusal c ledger ≡ Err why → FamilyCalled c ledger lent (reported_answer (refused_answer ledger why)) lent
  unfolding after_call
  refused_call e = record { results = rw e refused_results; ledger_after = rw e }

-- what the contract comes to where nothing is refused
module _ (c : Call) (ledger : Ledger) (e : refusal c ledger ≡ Ok tt) where
  pub ending_is : ending_with c (refusal c ledger) ≡ ending c
  unfolding ending_with
  ending_is = rw e

  pub fates_are : fates_with c (refusal c ledger) ≡ fates c
  unfolding fates_with
  fates_are = rw e

  pub ledger_is : after_call c ledger ≡ plus ledger (counted c)
  unfolding after_call
  ledger_is = rw e

  pub marks_are : (old : List ℕ) → marks_after c (refusal c ledger) old ≡ written (mark_words (fates c)) old
  unfolding marks_after
  marks_are old = rw e

  pub column_is : (result old : List ℕ) → column_after c (refusal c ledger) result old ≡ cond (is_called (ending c)) (written result old) old
  unfolding column_after
  column_is result old = rw ending_is
