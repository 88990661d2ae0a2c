-- One call: what 01's call promises with the ledger that decides, and what is kept of it, is what the sampled call promises.
use mathlib.Core.Bool.{Bool, true, false, cond}
use mathlib.Core.List.{List}
use mathlib.Core.Path.{◌≡◌, refl, sym, ◌∙◌, ap}
use Prim.Native.Nat.{ℕ, ◌+◌, ◌*◌, ◌<◌}
use native.Mathlib.Nat.{zero-add}
use native.Mathlib.Omega.{arith}
use borrow.Author.Tests.{lt-ltb, le-ltb}
use lib.ListN.{length, get_or, set, replicate}
use lib.Seq.{sets}
use Rattle.lists.specs.Tabulate.{tabulate}
use Rattle.lists.proofs.Places.{get_d_repeated}
use Rattle.lists.proofs.Tabulate.{tabulate-same}
use Rattle.std.specs.Prelude.{Result, Ok, Err, is_err}
use Rattle.std.specs.Result.{result_and}
use Rattle.caller.specs.declared.refusal.Refusal.{Refusal}
use Rattle.caller.specs.declared.refusal.Refusal.TheVariants as refusals
use Rattle.caller.proofs.Refusals.{accepted, both_passed}
use Rattle.codec_stats.specs.Ledger.{Counts, fresh, of_counts, plus, Addable}
use Rattle.codec_stats.specs.Counts.{counts_of}
use Rattle.codec_stats.specs.declared.ledger.Ledger.{Ledger}
use Rattle.codec_stats.proofs.Counts.{reasons_back}
use Rattle.codec_stats.proofs.Adding.{plus_ten}
use Rattle.sample_ledgers.specs.Samples.{ledger_at, samples_of}
use Rattle.sample_ledgers.proofs.Flat.{sample_read_lem, sample_put}
use Rattle.codec_family.specs.Answer.{reported, reported_answer, says_refused}
use Rattle.codec_family.specs.Call.{Call, Lent}
use Rattle.codec_family.specs.Counted.{counted, after_call}
use Rattle.codec_family.specs.Ending.{is_refused, ending}
use Rattle.codec_family.specs.FamilyCalled.{ending_with, refused_answer, Results, FamilyCalled}
use Rattle.codec_family.specs.Refusals.{of_call, refusal}
use Rattle.codec_family.specs.declared.answer.Answer.{Answer}
use Rattle.codec_family.specs.declared.answer.FamilyAnswer.{FamilyAnswer}
use Rattle.codec_family.specs.declared.ending.Ending.{Ending}
use Rattle.codec_family.specs.declared.ending.Ending.TheVariants as endings
use Rattle.codec_family.proofs.Answering.{refused_as}
use Rattle.codec_family.proofs.Counting.{counted_ten, counted_few, few_addable}
use Rattle.codec_family.proofs.Refusing.{records_stand, call_stands, refused_results}
use Rattle.codec_family.proofs.Settled.{ending-unrefused, fated}
use Rattle.codec_samples.specs.Books.{Books, books_of}
use Rattle.codec_samples.specs.Deciding.{Decides}
use Rattle.codec_samples.specs.SampledCall.{SampledCall, sampled_call_of, of_books, own_counts, sampled_refusal, counted_in, after_sampled}
use Rattle.codec_samples.specs.SampledFamily.{SampledFamilyCalled}
use Rattle.codec_samples.proofs.Deciding.{both_small}

-- 'A refusal leaves everything as it was'
pub sampled_refused_call : (c : SampledCall) (run : Ledger) (samples : List Counts) (lent : Lent) (why : Refusal) → sampled_refusal c (record { run = run; samples = samples }) ≡ Err why
    → SampledFamilyCalled c (record { run = run; samples = samples }) lent (reported_answer (refused_answer run why)) samples lent
unfolding after_sampled
sampled_refused_call c run samples lent why e = record { results = rw e (refused_results c.call lent run why); run_after = rw e; samples-after = rw e }

-- '20 sample number above 95, tested before all others', whatever else is handed over
pub refused_twenty : (c : SampledCall) (books : Books) → 95 < c.sample → sampled_refusal c books ≡ Err refusals.NoSuchSample
unfolding sampled_refusal
refused_twenty c books above = rw (lt-ltb 95 c.sample above)

-- counts added to none
none_reasons : (l : Ledger) → length l.reasons ≡ 10 → tabulate (λ i. get_or (replicate 10 0) i 0 + get_or l.reasons i 0) 10 ≡ l.reasons
none_reasons l ten =
    tabulate-same (λ i. get_or (replicate 10 0) i 0 + get_or l.reasons i 0) (λ i. get_or l.reasons i 0) 10 (λ i h. rw (get_d_repeated {A = ℕ} 10 i 0) (zero-add _))
    ∙ reasons_back l ten

pub plus-fresh : (l : Ledger) → length l.reasons ≡ 10 → plus fresh l ≡ l
unfolding plus
plus-fresh l ten = λ k.
    record {
      families = zero-add l.families k;
      records = zero-add l.records k;
      reasons = none_reasons l ten k;
      passed_over = zero-add l.passed_over k;
      no_strand = zero-add l.no_strand k;
      used = zero-add l.used k;
      disagreement_rejected = zero-add l.disagreement_rejected k;
      duplexes = zero-add l.duplexes k;
      bases = zero-add l.bases k;
      duplex_bases = zero-add l.duplex_bases k;
      disagreements = zero-add l.disagreements k;
    }

-- the results speak of the answer's ending and list, not of its ledger
module _ {c : Call} {r : Result Unit Refusal} {before after : Lent} (answer kept : FamilyAnswer) where
  same_results : kept.ending ≡ answer.ending → kept.listed ≡ answer.listed → Results c r before answer after → Results c r before kept after
  same_results ended listed results =
      record {
        ended = ended ∙ results.ended;
        marks = results.marks;
        list_length = listed ∙ results.list_length;
        list_records = results.list_records;
        list_reasons = results.list_reasons;
        duplex_bases = results.duplex_bases;
        duplex_quals = results.duplex_quals;
        duplex-depths = results.duplex-depths;
        duplex_errors = results.duplex_errors;
        r1_bases = results.r1_bases;
        r1_quals = results.r1_quals;
        r1_depths = results.r1_depths;
        r1_errors = results.r1_errors;
        r2_bases = results.r2_bases;
        r2_quals = results.r2_quals;
        r2_depths = results.r2_depths;
        r2_errors = results.r2_errors;
      }

-- an ending and what is told of it
said_as : (e : Ending) → is_refused e ≡ says_refused (reported e)
said_as (endings.Called length) = refl
said_as endings.Empty = refl
said_as endings.NoStrand = refl
said_as (endings.Rejected reason) = refl
said_as (endings.Disagreeing limit) = refl
said_as (endings.Refused refusal) = refl

-- the books after a call that is not refused
module _ (c : SampledCall) (books : Books) (none : is_err (sampled_refusal c books) ≡ false) where
  pub books_are : after_sampled c books ≡ counted_in c books
  unfolding after_sampled
  books_are = rw none

-- 01's call c, handed the ledger that decides between the run's and the sample's own
module _ (c : Call) (sample : ℕ) (run : Ledger) (flat : List ℕ) (size : length flat ≡ 1920) (below : sample < 96) (own : Ledger) (reads : own ≡ ledger_at flat sample)
    (deciding : Ledger) (decides : Decides run own deciding) (before after : Lent) (answer : Answer) (called : FamilyCalled c deciding before (reported_answer answer) after) where
  abbrev sampled : SampledCall
  sampled = sampled_call_of c sample

  abbrev books : Books
  books = books_of run flat

  own_is : own_counts sampled books ≡ own
  own_is = sample_read_lem flat sample below ∙ sym reads

  refusal_is : refusal c deciding ≡ sampled_refusal sampled books
  unfolding refusal sampled_refusal
  refusal_is = rw (le-ltb 95 sample (omega arith), own_is) (ap (result_and (of_call c)) decides.refuses)

  answered : is_refused answer.ending ≡ is_err (refusal c deciding)
  unfolding ending_with
  answered =
      said_as answer.ending
      ∙ ap says_refused called.results.ended
      ∙ refused_as (refusal c deciding) (ending c) (λ none. ending-unrefused c (records_stand c (call_stands c deciding none)))

  -- not refused: the answer's ledger is what the call counts
  module _ (goes_on : is_refused answer.ending ≡ false) where
    none_refuses : refusal c deciding ≡ Ok tt
    none_refuses = accepted (refusal c deciding) (sym answered ∙ goes_on)

    books_stand : of_books run own ≡ Ok tt
    unfolding refusal
    books_stand = sym decides.refuses ∙ (both_passed (of_call c) (of_counts deciding) none_refuses).1

    counted-alone : answer.ledger ≡ counted c
    unfolding after_call
    counted-alone =
        called.ledger_after
        ∙ rw (none_refuses, decides.else_fresh books_stand) (plus-fresh (counted c) (counted_ten c))

    pub addable_to_both : Addable run answer.ledger × Addable own answer.ledger
    addable_to_both =
        let stand = records_stand c (call_stands c deciding none_refuses) in
        let few = counted_few c stand (fated c stand) in
        let small = both_small run own books_stand in
        rw counted-alone (few_addable run (counted c) small.0 few, few_addable own (counted c) small.1 few)

    stored : samples_of (sets flat (20 * sample) (counts_of (plus own answer.ledger))) ≡ (after_sampled sampled books).samples
    unfolding counted_in
    stored =
        sample_put flat sample (plus own answer.ledger) size below (plus_ten own answer.ledger)
        ∙ ap (λ (l : Counts). set (samples_of flat) sample l) (ap (plus own) counted-alone ∙ ap (λ (l : Counts). plus l (counted c)) (sym own_is))
        ∙ sym (ap Books.samples (books_are sampled books (ap is_err (sym refusal_is ∙ none_refuses))))

    run_added : plus run answer.ledger ≡ (after_sampled sampled books).run
    unfolding counted_in
    run_added = ap (plus run) counted-alone ∙ sym (ap Books.run (books_are sampled books (ap is_err (sym refusal_is ∙ none_refuses))))

  -- refused: both ledgers are left
  left : is_refused answer.ending ≡ true → books ≡ after_sampled sampled books
  unfolding after_sampled
  left e = rw (← refusal_is, ← answered, e)

  -- what is kept of the answer and of the samples
  pub books_kept : (kept : Answer) (flat' : List ℕ)
      → kept ≡ record { ending = answer.ending; listed = answer.listed; ledger = cond (is_refused answer.ending) run (plus run answer.ledger) }
      → flat' ≡ cond (is_refused answer.ending) flat (sets flat (20 * sample) (counts_of (plus own answer.ledger)))
      → SampledFamilyCalled sampled books before (reported_answer kept) (samples_of flat') after
  books_kept kept flat' answers stores =
      record {
        results = same_results (reported_answer answer) (reported_answer kept) (ap reported (ap Answer.ending answers)) (ap Answer.listed answers) (rw refusal_is at called.results);
        run_after = ap Answer.ledger answers ∙ run_left (is_refused answer.ending) refl;
        samples-after = ap samples_of stores ∙ samples-left (is_refused answer.ending) refl;
      }
    where
      run_left : (refused : Bool) → is_refused answer.ending ≡ refused → cond refused run (plus run answer.ledger) ≡ (after_sampled sampled books).run
      run_left true e = ap Books.run (left e)
      run_left false e = run_added e

      samples-left : (refused : Bool) → is_refused answer.ending ≡ refused
          → samples_of (cond refused flat (sets flat (20 * sample) (counts_of (plus own answer.ledger)))) ≡ (after_sampled sampled books).samples
      samples-left true e = ap Books.samples (left e)
      samples-left false e = stored e
