-- 'each run figure but the two rates is the sum of the samples' figures'.
use mathlib.Core.Bool.{Bool, true, false, cond}
use mathlib.Core.List.{List, [], ◌∷◌}
use mathlib.Core.Path.{◌≡◌, refl, sym, ◌∙◌, ap}
use Prim.Native.Nat.{ℕ, zero, suc, ◌+◌, ◌<◌}
use native.Mathlib.Omega.{arith}
use lib.ListN.{length, get_or, set, replicate, length-replicate, length-set}
use Rattle.lists.specs.Total.{total}
use Rattle.lists.specs.Tabulate.{tabulate}
use Rattle.lists.proofs.Places.{get_d_repeated}
use Rattle.codec_stats.specs.Ledger.{Counts, fresh, filtered, plus}
use Rattle.sample_ledgers.specs.Samples.{sample_total}
use Rattle.codec_stats.specs.declared.ledger.Ledger.{Ledger}
use Rattle.codec_stats.proofs.Adding.{plus_ten, filtered-fresh, filtered-plus, reason_plus, plus-grouped, plus-swapped}
use Rattle.codec_conservation.specs.Chain.{Each}
use Rattle.codec_family.specs.Counted.{counted}
use Rattle.std.specs.Prelude.{is_err}
use Rattle.caller.proofs.Refusals.{accepted}
use Rattle.codec_samples.specs.Books.{Books, sample_of}
use Rattle.codec_samples.specs.SampledCall.{SampledCall, own_counts, sampled_refusal, counted_in, after_sampled}
use Rattle.sample_conservation.specs.SampledHistory.{fresh_books, sampled_history_from, sampled_history}
use Rattle.sample_conservation.specs.Sums.{summed, Sums}
use Rattle.sample_conservation.proofs.Turns.{names_sample}

-- what is added to one is added to the sum
pub summed-set : (samples : List Counts) (s : ℕ) (more : Counts) → s < length samples → summed (set samples s (plus (sample_of s samples) more)) ≡ plus (summed samples) more
unfolding summed
summed-set [] s more h = absurd (omega arith)
summed-set (l ∷ later) zero more h = plus-swapped l more (summed later)
summed-set (l ∷ later) (suc s) more h = ap (λ (sum : Counts). plus l sum) (summed-set later s more (omega arith)) ∙ plus-grouped l (summed later) more

fresh_twice : fresh ≡ plus fresh fresh
unfolding plus tabulate
fresh_twice = refl

-- nothing is the sum of nothings
pub summed-fresh : (n : ℕ) → fresh ≡ summed (replicate n fresh)
unfolding summed
summed-fresh zero = refl
summed-fresh (suc n) = fresh_twice ∙ ap (λ (sum : Counts). plus fresh sum) (summed-fresh n)

abbrev Ten : Counts → Type 0
Ten l = length l.reasons ≡ 10

-- books of 96 samples, ten reasons each, that add up to the run's
pub record Balanced (books : Books) : Type 0 where
  pub many : length books.samples ≡ sample_total
  pub tens : Each Ten books.samples
  pub balance : books.run ≡ summed books.samples

tens_fresh : (n : ℕ) → Each Ten (replicate n fresh)
tens_fresh zero = tt
tens_fresh (suc n) = (refl, tens_fresh n)

tens_set : (samples : List Counts) (s : ℕ) (counts : Counts) → Ten counts → Each Ten samples → Each Ten (set samples s counts)
tens_set [] s counts ten all = tt
tens_set (l ∷ later) zero counts ten all = (ten, all.1)
tens_set (l ∷ later) (suc s) counts ten all = (all.0, tens_set later s counts ten all.1)

pub fresh_balanced : Balanced fresh_books
fresh_balanced = record { many = length-replicate sample_total fresh; tens = tens_fresh sample_total; balance = summed-fresh sample_total }

counted_balanced : (c : SampledCall) (books : Books) → c.sample < sample_total → Balanced books → Balanced (counted_in c books)
unfolding counted_in
counted_balanced c books below b =
    let after = plus (own_counts c books) (counted c.call) in
    record {
      many = length-set books.samples c.sample after ∙ b.many;
      tens = tens_set books.samples c.sample after (plus_ten (own_counts c books) (counted c.call)) b.tens;
      balance = ap (λ (run : Counts). plus run (counted c.call)) b.balance ∙ sym (summed-set books.samples c.sample (counted c.call) (rw b.many below));
    }

-- every call keeps the balance
pub call_balanced : (c : SampledCall) (books : Books) → Balanced books → Balanced (after_sampled c books)
unfolding after_sampled
call_balanced c books b = go (is_err (sampled_refusal c books)) refl
  where
    go : (r : Bool) → is_err (sampled_refusal c books) ≡ r → Balanced (cond r books (counted_in c books))
    go true e = b
    go false e = counted_balanced c books (names_sample c books (accepted _ e)) b

pub history_balanced : (books : Books) (calls : List SampledCall) → Balanced books → Balanced (sampled_history_from books calls)
unfolding sampled_history_from
history_balanced books [] b = b
history_balanced books (c ∷ calls) b = history_balanced (after_sampled c books) calls (call_balanced c books b)

-- a figure that adds up is the sum of the samples'
figure_summed : (figure : Counts → ℕ) → figure fresh ≡ 0 → ((l more : Counts) → figure (plus l more) ≡ figure l + figure more) → (samples : List Counts) → figure (summed samples) ≡ total figure samples
unfolding summed total
figure_summed figure none adds [] = none
figure_summed figure none adds (l ∷ later) = adds l (summed later) ∙ ap (λ (n : ℕ). figure l + n) (figure_summed figure none adds later)

summed_ten : (samples : List Counts) → Ten (summed samples)
unfolding summed
summed_ten [] = refl
summed_ten (l ∷ later) = plus_ten l (summed later)

filtered-summed : (samples : List Counts) → Each Ten samples → filtered (summed samples) ≡ total filtered samples
unfolding summed total
filtered-summed [] tens = filtered-fresh
filtered-summed (l ∷ later) tens = filtered-plus l (summed later) tens.0 (summed_ten later) ∙ ap (λ (n : ℕ). filtered l + n) (filtered-summed later tens.1)

sums_of : (samples : List Counts) → Each Ten samples → Sums (summed samples) samples
unfolding plus
sums_of samples tens =
    record {
      families = figure_summed Ledger.families refl (λ l more. refl) samples;
      records = figure_summed Ledger.records refl (λ l more. refl) samples;
      reasons = λ i h. figure_summed (λ l. get_or l.reasons i 0) (get_d_repeated {A = ℕ} 10 i 0) (λ l more. reason_plus l more i h) samples;
      passed_over = figure_summed Ledger.passed_over refl (λ l more. refl) samples;
      no_strand = figure_summed Ledger.no_strand refl (λ l more. refl) samples;
      used = figure_summed Ledger.used refl (λ l more. refl) samples;
      disagreement_rejected = figure_summed Ledger.disagreement_rejected refl (λ l more. refl) samples;
      duplexes = figure_summed Ledger.duplexes refl (λ l more. refl) samples;
      bases = figure_summed Ledger.bases refl (λ l more. refl) samples;
      duplex_bases = figure_summed Ledger.duplex_bases refl (λ l more. refl) samples;
      disagreements = figure_summed Ledger.disagreements refl (λ l more. refl) samples;
      filtered-sum = filtered-summed samples tens;
    }

-- balanced books: each of the 20 counts, and filtered
pub balanced_sums : (books : Books) → Balanced books → Sums books.run books.samples
balanced_sums books b = rw b.balance (sums_of books.samples b.tens)

-- for every list of calls
pub history_sums : (calls : List SampledCall) → Sums (sampled_history calls).run (sampled_history calls).samples
unfolding sampled_history
history_sums calls = balanced_sums (sampled_history_from fresh_books calls) (history_balanced fresh_books calls fresh_balanced)
