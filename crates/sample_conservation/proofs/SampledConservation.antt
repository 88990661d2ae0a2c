-- Document 02, Req 01: the conservation rule of the run and of every sample, one claim about every list of family calls.
use mathlib.Core.Bool.{Bool, true, false, cond, not}
use mathlib.Core.List.{List, [], ◌∷◌}
use mathlib.Core.Path.{◌≡◌, refl, ◌∙◌, ap}
use Prim.Native.Nat.{ℕ, ◌<◌}
use lib.Dec.{eqb}
use lib.ListN.{length, length-replicate, get_or-replicate}
use Rattle.std.specs.List.{filter}
use Rattle.codec_stats.specs.Ledger.{Counts, fresh, figures}
use Rattle.sample_ledgers.specs.Samples.{sample_total}
use Rattle.codec_conservation.specs.Chain.{Made, unrefused, Each}
use Rattle.codec_conservation.specs.Conserved.{Marked, Claims}
use Rattle.codec_family.specs.Answer.{says_refused}
use Rattle.codec_conservation.proofs.Conservation.{added_up, each_taken, claims}
use Rattle.codec_conservation.proofs.Taking.{Taken, taken_marked}
use Rattle.codec_samples.specs.Books.{Books, sample_of}
use Rattle.sample_conservation.specs.SampledChain.{SampledMade, books_after, SampledChainFrom, SampledChain, last_books_from, last_books, sampled_calls_of, families_of, naming}
use Rattle.sample_conservation.specs.SampledConserved.{SampledConserved}
use Rattle.sample_conservation.specs.SampledHistory.{fresh_books, sampled_history_from, sampled_history}
use Rattle.sample_conservation.proofs.Summing.{Balanced, fresh_balanced, history_balanced, balanced_sums}
use Rattle.sample_conservation.proofs.Turns.{books_after_lem, all_left, call_taken, as_many, run_gains, own_gains, others_stay}

-- all ledgers are the history's at every call
follows : (books : Books) (made : List SampledMade) → SampledChainFrom books made → last_books_from books made ≡ sampled_history_from books (sampled_calls_of made)
unfolding sampled_history_from
follows books [] chain = refl
follows books (m ∷ later) chain =
    follows (books_after m) later chain.1 ∙ ap (λ (b : Books). sampled_history_from b (sampled_calls_of later)) (books_after_lem chain.0)

-- the run's ledger gains what each call not refused counts
run_adds_up : (books : Books) (made : List SampledMade) → SampledChainFrom books made → (last_books_from books made).run ≡ added_up books.run (unrefused (families_of made))
unfolding added_up
run_adds_up books [] chain = refl
run_adds_up books (m ∷ later) chain = run_adds_up (books_after m) later chain.1 ∙ go (says_refused m.made.answer.ending) refl
  where
    rest : List Made
    rest = unrefused (families_of later)

    go : (b : Bool) → says_refused m.made.answer.ending ≡ b → added_up m.made.answer.ledger rest ≡ added_up books.run (cond (not b) (m.made ∷ rest) rest)
    go true e = ap (λ (b : Books). added_up b.run rest) (all_left chain.0 e)
    go false e = ap (λ (l : Counts). added_up l rest) (run_gains chain.0 e)

-- a sample's ledger gains what each call not refused counts that names it
sample_adds_up : (s : ℕ) (books : Books) (made : List SampledMade) → length books.samples ≡ sample_total → SampledChainFrom books made
    → sample_of s (last_books_from books made).samples ≡ added_up (sample_of s books.samples) (unrefused (families_of (naming s made)))
unfolding added_up
sample_adds_up s books [] many chain = refl
sample_adds_up s books (m ∷ later) many chain =
    sample_adds_up s (books_after m) later (as_many chain.0 ∙ many) chain.1 ∙ go (eqb m.sample s) refl
  where
    rest : List Made
    rest = unrefused (families_of (naming s later))

    own : eqb m.sample s ≡ true → (b : Bool) → says_refused m.made.answer.ending ≡ b
        → added_up (sample_of s m.samples) rest ≡ added_up (sample_of s books.samples) (cond (not b) (m.made ∷ rest) rest)
    own same true e = ap (λ (b : Books). added_up (sample_of s b.samples) rest) (all_left chain.0 e)
    own same false e = ap (λ (l : Counts). added_up l rest) (own_gains chain.0 e many s same)

    go : (same : Bool) → eqb m.sample s ≡ same
        → added_up (sample_of s m.samples) rest ≡ added_up (sample_of s books.samples) (unrefused (families_of (cond same (m ∷ naming s later) (naming s later))))
    go true same = own same (says_refused m.made.answer.ending) refl
    go false differ = ap (λ (l : Counts). added_up l rest) (others_stay chain.0 s differ)

-- a call that is taken if it is not refused
abbrev Takes : SampledMade → Type 0
Takes m = says_refused m.made.answer.ending ≡ false → Taken m.made

all_take : (books : Books) (made : List SampledMade) → SampledChainFrom books made → Each Takes made
all_take books [] chain = tt
all_take books (m ∷ later) chain = (call_taken chain.0, all_take (books_after m) later chain.1)

-- what holds of each holds of each of those
each_those : {A : Type 0} (P : A → Type 0) (test : A → Bool) (xs : List A) → Each P xs → Each P (filter test xs)
each_those P test [] each = tt
each_those P test (x ∷ xs) each = go (test x) (each_those P test xs each.1)
  where
    go : (b : Bool) → Each P (filter test xs) → Each P (cond b (x ∷ filter test xs) (filter test xs))
    go true rest = (each.0, rest)
    go false rest = rest

takes_taken : (made : List SampledMade) → Each Takes made → Each Taken (unrefused (families_of made))
takes_taken [] each = tt
takes_taken (m ∷ later) each = go (says_refused m.made.answer.ending) refl (takes_taken later each.1)
  where
    go : (b : Bool) → says_refused m.made.answer.ending ≡ b → Each Taken (unrefused (families_of later)) → Each Taken (cond (not b) (m.made ∷ unrefused (families_of later)) (unrefused (families_of later)))
    go true e rest = rest
    go false e rest = (each.0 e, rest)

module _ (made : List SampledMade) (chain : SampledChain made) where
  run_claims_are : Claims (last_books made).run (unrefused (families_of made))
  run_claims_are = rw (run_adds_up fresh_books made chain) (claims (unrefused (families_of made)) (takes_taken made (all_take fresh_books made chain)))

  sample_claims_are : (s : ℕ) → s < sample_total → Claims (sample_of s (last_books made).samples) (unrefused (families_of (naming s made)))
  sample_claims_are s below =
      let named = unrefused (families_of (naming s made)) in
      let each : Each Taken named = takes_taken (naming s made) (each_those Takes (λ m. eqb m.sample s) made (all_take fresh_books made chain)) in
      let from-fresh : sample_of s (last_books made).samples ≡ added_up fresh named =
      sample_adds_up s fresh_books made (length-replicate sample_total fresh) chain ∙ ap (λ (l : Counts). added_up l named) (get_or-replicate sample_total s fresh fresh below)
      in
      rw from-fresh (claims named each)

  balanced : Balanced (last_books made)
  balanced = rw (follows fresh_books made chain) (history_balanced fresh_books (sampled_calls_of made) fresh_balanced)

-- demand 3, of the run and of every sample
pub sampled_conserved : (made : List SampledMade) → SampledChain made → SampledConserved made
unfolding sampled_history
sampled_conserved made chain =
    let each = takes_taken made (all_take fresh_books made chain) in
    let same = follows fresh_books made chain in
    record {
      one_each = (balanced made chain).many;
      run_figures = ap (λ (b : Books). figures b.run) same;
      sample_figures = λ s below. ap (λ (b : Books). figures (sample_of s b.samples)) same;
      marks = each_taken (λ m. Marked m.call m.after.marks) (λ m t. taken_marked t) (unrefused (families_of made)) each;
      run_claims = run_claims_are made chain;
      sample_claims = sample_claims_are made chain;
      all_added_up = (balanced made chain).balance;
      sums = balanced_sums (last_books made) (balanced made chain);
    }
