-- Laws of what a family call answers: the list is short, and so is the duplex.
use mathlib.Core.List.{List, []}
use mathlib.Core.Path.{◌≡◌, refl, ap}
use native.Mathlib.Omega.{arith}
use Rattle.std.specs.Prelude.{Result, Ok, Err}
use Rattle.caller.proofs.Refusals.{passed, both_passed}
use Rattle.caller.specs.declared.refusal.Refusal.{Refusal}
use Rattle.codec_family.proofs.Called.{called_short}
use Rattle.codec_family.proofs.Counting.{counted-all, counted-rejections}
use Rattle.codec_family.proofs.Refusing.{records_stand}
use Rattle.codec_family.proofs.Selected.{few_records}
use Rattle.codec_family.proofs.Settled.{fated}
use Rattle.codec_family.specs.Answer.{reported, reported_answer}
use Rattle.codec_family.specs.Call.{Call, Lent}
use Rattle.codec_family.specs.Ending.{called_length, ending}
use Rattle.codec_family.specs.Fates.{fates}
use Rattle.codec_family.specs.FamilyCalled.{ending_with, fates_with, Results}
use Rattle.codec_family.specs.Refusals.{of_records, of_call}
use Rattle.codec_family.specs.declared.answer.Answer.{Answer}
use Rattle.codec_family.specs.declared.answer.FamilyEnding.{FamilyEnding}
use Rattle.codec_family.specs.declared.ending.Ending.TheVariants as endings
use Rattle.codec_family.specs.declared.ending.Ending.{Ending}
use Rattle.codec_rejects.proofs.Listing.{length-handover}
use Rattle.codec_rejects.specs.Fates.{rejections}
use Rattle.codec_samples.specs.Books.{Books}
use Rattle.codec_samples.specs.SampledCall.{SampledCall, sampled_refusal}
use Rattle.codec_samples.specs.SampledFamily.{SampledFamilyCalled}
use Rattle.codec_stats.specs.Ledger.{Counts}
use Rattle.lists.specs.Total.{total}
use Rattle.family_calls.specs.Short.{Short}

reported-length : (e : Ending) → (reported e).length ≡ called_length e
reported-length (endings.Called length) = refl
reported-length endings.Empty = refl
reported-length endings.NoStrand = refl
reported-length (endings.Rejected reason) = refl
reported-length (endings.Disagreeing limit) = refl
reported-length (endings.Refused refusal) = refl

no_rejections : rejections [] ≡ 0
unfolding rejections total
no_rejections = refl

module _ (c : Call) (before after : Lent) (answer : Answer) where
  refused_short : (why : Refusal) → Results c (Err why) before (reported_answer answer) after → Short answer
  unfolding ending_with fates_with
  refused_short why results = record {
    few = omega (arith, results.list_length, length-handover [], no_rejections);
    short = omega (arith, reported-length answer.ending, ap (λ (e : FamilyEnding). e.length) results.ended);
  }

  called_few : of_records c ≡ Ok tt → Results c (Ok tt) before (reported_answer answer) after → Short answer
  unfolding ending_with fates_with
  called_few none results = record {
    few = omega (arith, results.list_length, length-handover (fates c), counted-rejections c, counted-all c (fated c none), few_records c none);
    short = omega (arith, reported-length answer.ending, ap (λ (e : FamilyEnding). e.length) results.ended, reported-length (ending c), called_short c none);
  }

-- a call that is not refused is not refused for its records
stands : (c : SampledCall) (books : Books) → sampled_refusal c books ≡ Ok tt → of_records c.call ≡ Ok tt
unfolding sampled_refusal
stands c books none = records_stand c.call (both_passed (of_call c.call) _ (passed _ _ _ none).1).0

-- a family lists at most its 512 records, and no duplex is longer than 2,047
pub answer_short : (c : SampledCall) (books : Books) (before after : Lent) (answer : Answer) (samples : List Counts) → SampledFamilyCalled c books before (reported_answer answer) samples after → Short answer
answer_short c books before after answer samples called = go (sampled_refusal c books) refl
  where
    go : (r : Result Unit Refusal) → sampled_refusal c books ≡ r → Short answer
    go (Err why) e = refused_short c.call before after answer why (rw e at called.results)
    go (Ok done) e = called_few c.call before after answer (stands c books (rw e)) (rw e at called.results)
