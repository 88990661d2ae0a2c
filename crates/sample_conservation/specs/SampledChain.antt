-- Document 02, Req 01: a list of family calls, 'the run's and all samples' ledgers fresh at the start', each later one handed what the one
-- before left of both.
use Rattle.std.specs.Prelude.{List, [], ◌∷◌, map, ◌≡◌, ℕ, eqb}
use Rattle.std.specs.List.{filter}
use Rattle.codec_stats.specs.Ledger.{Counts}
use Rattle.codec_family.specs.Call.{room_of}
use Rattle.codec_conservation.specs.Chain.{Made}
use Rattle.codec_samples.specs.Books.{Books}
use Rattle.codec_samples.specs.SampledCall.{SampledCall, sampled_call_of}
use Rattle.codec_samples.specs.SampledFamily.{SampledFamilyCalled}
use Rattle.sample_conservation.specs.SampledHistory.{fresh_books}

-- one call of the list: 01's, with its sample, and the samples' ledgers that it left; the ledger of 01's answer is the run's
pub record SampledMade : Type 0 where
  pub made : Made
  pub sample : ℕ
  pub samples : List Counts

abbrev pub call_of : SampledMade → SampledCall
call_of m = sampled_call_of m.made.call m.sample

-- what the call left of both
abbrev pub books_after : SampledMade → Books
books_after m = record { run = m.made.answer.ledger; samples = m.samples }

-- it was handed ledgers, and did what the exported contract says
pub record SampledHanded (books : Books) (m : SampledMade) : Type 0 where
  pub lent : m.made.call.room ≡ room_of m.made.before
  pub contract : SampledFamilyCalled (call_of m) books m.made.before m.made.answer m.samples m.made.after

-- a list of calls, the first handed these ledgers, each later one those of the one before
abbrev pub SampledChainFrom : Books → List SampledMade → Type 0
SampledChainFrom books [] = Unit {0}
SampledChainFrom books (m ∷ later) = SampledHanded books m × SampledChainFrom (books_after m) later

abbrev pub SampledChain : List SampledMade → Type 0
SampledChain made = SampledChainFrom fresh_books made

-- the ledgers after the list
abbrev pub last_books_from : Books → List SampledMade → Books
last_books_from books [] = books
last_books_from books (m ∷ later) = last_books_from (books_after m) later

abbrev pub last_books : List SampledMade → Books
last_books made = last_books_from fresh_books made

-- the calls alone
abbrev pub sampled_calls_of : List SampledMade → List SampledCall
sampled_calls_of made = map call_of made

-- 01's part of each call
abbrev pub families_of : List SampledMade → List Made
families_of made = map SampledMade.made made

-- the calls that name a sample
abbrev pub naming : ℕ → List SampledMade → List SampledMade
naming s made = filter (λ m. eqb m.sample s) made
