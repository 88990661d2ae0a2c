-- What the contract says of one call: it is refused and leaves all ledgers, or the run's and its own sample's gain what it counts.
use mathlib.Core.Bool.{Bool, true, false}
use mathlib.Core.List.{List}
use mathlib.Core.Path.{◌≡◌, refl, sym, ◌∙◌, ap}
use Prim.Native.Nat.{ℕ, ◌<◌}
use native.Mathlib.Omega.{arith}
use borrow.Author.Tests.{ltb-false, eqb-true, eqb-false}
use lib.Dec.{eqb, ltb}
use lib.ListN.{length, set, length-set}
use lib.Seq.{get_or-set_same, get_or-set_other}
use Rattle.std.specs.Prelude.{Ok, is_err}
use Rattle.std.specs.Result.{result_and}
use Rattle.caller.specs.declared.refusal.Refusal.TheVariants.{NoSuchSample}
use Rattle.caller.proofs.Refusals.{accepted, passed, both_passed}
use Rattle.codec_stats.specs.Ledger.{Counts, fresh, plus}
use Rattle.sample_ledgers.specs.Samples.{sample_total}
use Rattle.codec_family.specs.Answer.{says_refused}
use Rattle.codec_family.specs.Counted.{counted}
use Rattle.codec_family.specs.Refusals.{of_call, of_records}
use Rattle.codec_family.proofs.Refusing.{records_stand}
use Rattle.codec_conservation.proofs.Taking.{Taken, answered_refused, taken_by}
use Rattle.codec_samples.specs.Books.{Books, sample_of}
use Rattle.codec_samples.specs.SampledCall.{SampledCall, own_counts, of_books, sampled_refusal, counted_in, after_sampled}
use Rattle.sample_conservation.specs.SampledChain.{SampledMade, call_of, books_after, SampledHanded}

-- a call that is not refused names a sample, its records stand, and both its ledgers have room
module _ (c : SampledCall) (books : Books) (none : sampled_refusal c books ≡ Ok tt) where
  past_twenty : (ltb 95 c.sample ≡ false) × (result_and (of_call c.call) (of_books books.run (own_counts c books)) ≡ Ok tt)
  unfolding sampled_refusal
  past_twenty = passed (ltb 95 c.sample) NoSuchSample (result_and (of_call c.call) (of_books books.run (own_counts c books))) none

  pub names_sample : c.sample < sample_total
  names_sample = omega (arith, ltb-false 95 c.sample past_twenty.0)

  past_nine : (of_call c.call ≡ Ok tt) × (of_books books.run (own_counts c books) ≡ Ok tt)
  past_nine = both_passed (of_call c.call) (of_books books.run (own_counts c books)) past_twenty.1

  pub looks_at_records : of_records c.call ≡ Ok tt
  looks_at_records = records_stand c.call past_nine.0

  pub books_stand : of_books books.run (own_counts c books) ≡ Ok tt
  books_stand = past_nine.1

-- the sample of a list in which one sample's counts are put
pub sample_same : (samples : List Counts) (s : ℕ) (counts : Counts) → s < length samples → sample_of s (set samples s counts) ≡ counts
sample_same samples s counts h = get_or-set_same samples s counts fresh h

pub sample_other : (samples : List Counts) (own s : ℕ) (counts : Counts) → eqb own s ≡ false → sample_of s (set samples own counts) ≡ sample_of s samples
sample_other samples own s counts e = get_or-set_other samples own s counts fresh (λ same. eqb-false own s e (sym same))

-- a call counts for its own sample alone
counted_many : (c : SampledCall) (books : Books) → length (counted_in c books).samples ≡ length books.samples
unfolding counted_in
counted_many c books = length-set books.samples c.sample (plus (own_counts c books) (counted c.call))

counted_other : (c : SampledCall) (books : Books) (s : ℕ) → eqb c.sample s ≡ false → sample_of s (counted_in c books).samples ≡ sample_of s books.samples
unfolding counted_in
counted_other c books s differ = sample_other books.samples c.sample s (plus (own_counts c books) (counted c.call)) differ

module _ {books : Books} {m : SampledMade} (handed : SampledHanded books m) where
  -- both equations of the contract as one
  pub books_after_lem : books_after m ≡ after_sampled (call_of m) books
  books_after_lem = λ i. record { run = handed.contract.run_after i; samples = handed.contract.samples-after i }

  is_refused : says_refused m.made.answer.ending ≡ is_err (sampled_refusal (call_of m) books)
  is_refused = answered_refused m.made (sampled_refusal (call_of m) books) handed.contract.results (looks_at_records (call_of m) books)

  -- refused: all ledgers are those that were handed over
  pub all_left : says_refused m.made.answer.ending ≡ true → books_after m ≡ books
  unfolding after_sampled
  all_left e = books_after_lem ∙ rw (sym is_refused ∙ e)

  -- not refused: the run's and its own sample's gain what the call counts
  pub none_refuses : says_refused m.made.answer.ending ≡ false → sampled_refusal (call_of m) books ≡ Ok tt
  none_refuses e = accepted _ (sym is_refused ∙ e)

  pub both_added : says_refused m.made.answer.ending ≡ false → books_after m ≡ counted_in (call_of m) books
  unfolding after_sampled
  both_added e = books_after_lem ∙ rw (none_refuses e)

  pub call_taken : says_refused m.made.answer.ending ≡ false → Taken m.made
  call_taken e = taken_by m.made (sampled_refusal (call_of m) books) handed.contract.results (looks_at_records (call_of m) books) (none_refuses e)

  -- there are as many samples as before
  pub as_many : length m.samples ≡ length books.samples
  as_many = go (says_refused m.made.answer.ending) refl
    where
      go : (b : Bool) → says_refused m.made.answer.ending ≡ b → length m.samples ≡ length books.samples
      go true e = ap (λ (b : Books). length b.samples) (all_left e)
      go false e = ap (λ (b : Books). length b.samples) (both_added e) ∙ counted_many (call_of m) books

  -- what one sample's ledger is after the call
  pub run_gains : says_refused m.made.answer.ending ≡ false → m.made.answer.ledger ≡ plus books.run (counted m.made.call)
  unfolding counted_in
  run_gains e = ap (λ (b : Books). b.run) (both_added e)

  pub own_gains : says_refused m.made.answer.ending ≡ false → length books.samples ≡ sample_total → (s : ℕ) → eqb m.sample s ≡ true
      → sample_of s m.samples ≡ plus (sample_of s books.samples) (counted m.made.call)
  unfolding counted_in
  own_gains e many s same =
      let here : m.sample ≡ s = eqb-true m.sample s same in
      let below : m.sample < sample_total = names_sample (call_of m) books (none_refuses e) in
      let gain : sample_of m.sample (set books.samples m.sample (plus (own_counts (call_of m) books) (counted m.made.call))) ≡ plus (own_counts (call_of m) books) (counted m.made.call) =
      sample_same books.samples m.sample (plus (own_counts (call_of m) books) (counted m.made.call)) (rw many below)
      in
      ap (λ (b : Books). sample_of s b.samples) (both_added e)
      ∙ ap (λ (k : ℕ). sample_of k (set books.samples m.sample (plus (own_counts (call_of m) books) (counted m.made.call)))) (sym here)
      ∙ gain
      ∙ ap (λ (k : ℕ). plus (sample_of k books.samples) (counted m.made.call)) here

  pub others_stay : (s : ℕ) → eqb m.sample s ≡ false → sample_of s m.samples ≡ sample_of s books.samples
  others_stay s differ = go (says_refused m.made.answer.ending) refl
    where
      go : (b : Bool) → says_refused m.made.answer.ending ≡ b → sample_of s m.samples ≡ sample_of s books.samples
      go true e = ap (λ (b : Books). sample_of s b.samples) (all_left e)
      go false e = ap (λ (b : Books). sample_of s b.samples) (both_added e) ∙ counted_other (call_of m) books s differ
