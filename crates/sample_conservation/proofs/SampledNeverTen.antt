-- From fresh ledgers refusal 10 never comes, neither of the run's nor of a sample's.
use mathlib.Core.Bool.{Bool, true, false}
use mathlib.Core.List.{List, [], ◌∷◌}
use mathlib.Core.Path.{◌≡◌, refl, sym, ◌∙◌, ap}
use Prim.Native.Nat.{ℕ}
use native.Mathlib.Omega.{arith}
use borrow.Author.Tests.{eqb-true}
use lib.Dec.{eqb, ltb}
use lib.ListN.{length, length-replicate}
use Rattle.lists.proofs.Places.{get_d_repeated}
use Rattle.std.specs.Prelude.{Ok}
use Rattle.caller.specs.declared.refusal.LedgerRefusal.TheVariants.{TooLarge, Full}
use Rattle.caller.specs.declared.refusal.Refusal.TheVariants.{Ledger as OfLedger, NoSuchSample}
use Rattle.caller.proofs.Refusals.{passed}
use Rattle.codec_stats.specs.Ledger.{Counts, fresh, too_large, full}
use Rattle.sample_ledgers.specs.Samples.{sample_total}
use Rattle.codec_conservation.specs.Chain.{Each}
use Rattle.codec_family.specs.Counted.{counted}
use Rattle.codec_family.specs.Answer.{says_refused}
use Rattle.codec_family.specs.Ending.{ending}
use Rattle.codec_family.specs.FamilyCalled.{ending_with}
use Rattle.codec_family.specs.Refusals.{of_call}
use Rattle.codec_family.proofs.Counting.{counted_few}
use Rattle.codec_family.proofs.Settled.{ending-unrefused}
use Rattle.codec_conservation.proofs.NeverTen.{Bounded, NotTen, fresh_bounded, plus_bounded, bounded_small, below-full, and_not, cause_not, call_not, AnsweredTen, answered_ten}
use Rattle.codec_conservation.proofs.Taking.{taken_fated}
use Rattle.codec_samples.specs.Books.{Books, sample_of}
use Rattle.codec_samples.specs.SampledCall.{SampledCall, own_counts, of_books, sampled_refusal}
use Rattle.sample_conservation.specs.SampledHistory.{fresh_books}
use Rattle.sample_conservation.specs.SampledChain.{SampledMade, call_of, books_after, SampledHanded, SampledChainFrom, SampledChain}
use Rattle.sample_conservation.proofs.Turns.{looks_at_records, books_stand, all_left, none_refuses, call_taken, as_many, run_gains, own_gains, others_stay}

-- every ledger's counts in proportion to its families, which end at 2^28
pub record BoundedBooks (books : Books) : Type 0 where
  pub run : Bounded books.run
  pub each : (s : ℕ) → Bounded (sample_of s books.samples)
  pub many : length books.samples ≡ sample_total

books_not : (run own : Counts) → too_large run ≡ false → too_large own ≡ false → NotTen (of_books run own)
unfolding of_books
books_not run own small also =
    rw (small, also)
    (cause_not (full run) (OfLedger Full) _ (λ e. omega arith)
    (cause_not (full own) (OfLedger Full) (Ok tt) (λ e. omega arith) tt))

sampled_ten_not : (c : SampledCall) (books : Books) → BoundedBooks books → NotTen (sampled_refusal c books)
unfolding sampled_refusal
sampled_ten_not c books b =
    cause_not (ltb 95 c.sample) NoSuchSample _ (λ e. omega arith)
    (and_not (of_call c.call) (of_books books.run (own_counts c books)) (call_not c.call)
    (books_not books.run (own_counts c books) (bounded_small books.run b.run) (bounded_small (own_counts c books) (b.each c.sample))))

-- a call that is not refused has room for one family more, in both its ledgers
room_in_both : (run own : Counts) → of_books run own ≡ Ok tt → (full run ≡ false) × (full own ≡ false)
unfolding of_books
room_in_both run own none =
    let small = passed (too_large run) (OfLedger TooLarge) _ none in
    let also = passed (too_large own) (OfLedger TooLarge) _ small.1 in
    let first = passed (full run) (OfLedger Full) _ also.1 in
    (first.0, (passed (full own) (OfLedger Full) (Ok tt) first.1).0)

handed_bounded : (books : Books) (m : SampledMade) → SampledHanded books m → BoundedBooks books → BoundedBooks (books_after m)
handed_bounded books m handed b = go (says_refused m.made.answer.ending) refl
  where
    go : (r : Bool) → says_refused m.made.answer.ending ≡ r → BoundedBooks (books_after m)
    go true e = rw (all_left handed e) b
    go false e =
        let t = call_taken handed e in
        let room = room_in_both books.run (own_counts (call_of m) books) (books_stand (call_of m) books (none_refuses handed e)) in
        let few = counted_few m.made.call t.records_stand (taken_fated t) in
        record {
          run = rw (run_gains handed e) (plus_bounded books.run (counted m.made.call) (below-full books.run b.run room.0) b.run few);
          each = λ s. of_sample s (eqb m.sample s) refl room.1;
          many = as_many handed ∙ b.many;
        }
      where
        of_sample : (s : ℕ) (same : Bool) → eqb m.sample s ≡ same → full (own_counts (call_of m) books) ≡ false → Bounded (sample_of s m.samples)
        of_sample s true same room =
            let t = call_taken handed e in
            let here : m.sample ≡ s = eqb-true m.sample s same in
            let own = sample_of s books.samples in
            let free : full own ≡ false = ap (λ (k : ℕ). full (sample_of k books.samples)) (sym here) ∙ room in
            rw (own_gains handed e b.many s same)
            (plus_bounded own (counted m.made.call) (below-full own (b.each s) free) (b.each s) (counted_few m.made.call t.records_stand (taken_fated t)))
        of_sample s false differ room = rw (others_stay handed s differ) (b.each s)

from_bounded : (books : Books) (made : List SampledMade) → BoundedBooks books → SampledChainFrom books made → Each (λ m. AnsweredTen m.made.answer.ending → ⊥) made
unfolding ending_with
from_bounded books [] b chain = tt
from_bounded books (m ∷ later) b chain = (
  λ ten.
      answered_ten (sampled_refusal (call_of m) books) (ending m.made.call) (sampled_ten_not (call_of m) books b)
      (λ none. ending-unrefused m.made.call (looks_at_records (call_of m) books none))
      (rw chain.0.contract.results.ended at ten),
  from_bounded (books_after m) later (handed_bounded books m chain.0 b) chain.1,
)

fresh_bounded_books : BoundedBooks fresh_books
fresh_bounded_books =
    record {
      run = fresh_bounded;
      each = λ s. rw (get_d_repeated {A = Counts} sample_total s fresh) fresh_bounded;
      many = length-replicate sample_total fresh;
    }

-- from fresh ledgers refusal 10 never comes
pub sampled_never_ten : (made : List SampledMade) → SampledChain made → Each (λ m. AnsweredTen m.made.answer.ending → ⊥) made
sampled_never_ten made chain = from_bounded fresh_books made fresh_bounded_books chain
