-- The claim is not empty: for every list of calls there is a chain.
use mathlib.Core.List.{List, [], ◌∷◌}
use mathlib.Core.Path.{◌≡◌, refl, ap}
use lib.ListN.{replicate}
use Rattle.codec_conservation.proofs.Existing.{make_by, room_lent, results_by}
use Rattle.codec_stats.specs.Ledger.{Counts, fresh}
use Rattle.sample_ledgers.proofs.Flat.{samples-fresh}
use Rattle.codec_samples.specs.Books.{Books, books_of}
use Rattle.codec_samples.specs.SampledCall.{SampledCall, sampled_refusal, after_sampled}
use Rattle.sample_conservation.specs.SampledHistory.{fresh_books}
use Rattle.sample_conservation.specs.SampledChain.{SampledMade, SampledHanded, SampledChainFrom, SampledChain, sampled_calls_of}

-- a call that does what the contract says
abbrev pub sampled_make : Books → SampledCall → SampledMade
sampled_make books c =
    record {
      made = make_by c.call (sampled_refusal c books) (after_sampled c books).run;
      sample = c.sample;
      samples = (after_sampled c books).samples;
    }

handed : (books : Books) (c : SampledCall) → SampledHanded books (sampled_make books c)
handed books c =
    record {
      lent = room_lent c.call;
      contract = record { results = results_by c.call (sampled_refusal c books) (after_sampled c books).run; run_after = refl; samples-after = refl };
    }

-- the calls in turn
abbrev make_from : Books → List SampledCall → List SampledMade
make_from books [] = []
make_from books (c ∷ calls) = sampled_make books c ∷ make_from (after_sampled c books) calls

chain_from : (books : Books) (calls : List SampledCall) → SampledChainFrom books (make_from books calls)
chain_from books [] = tt
chain_from books (c ∷ calls) = (handed books c, chain_from (after_sampled c books) calls)

same_calls : (books : Books) (calls : List SampledCall) → sampled_calls_of (make_from books calls) ≡ calls
same_calls books [] = refl
same_calls books (c ∷ calls) = ap (λ more. c ∷ more) (same_calls (after_sampled c books) calls)

-- every list of calls has a chain
pub sampled_chain_exists : (calls : List SampledCall) → (made : List SampledMade) × SampledChain made × (sampled_calls_of made ≡ calls)
sampled_chain_exists calls = (make_from fresh_books calls, chain_from fresh_books calls, same_calls fresh_books calls)

-- 'the run's and all samples' ledgers fresh at the start': an array of zeros
pub fresh_array : books_of fresh (replicate 1920 0) ≡ fresh_books
fresh_array = ap (λ (samples : List Counts). record { run = fresh; samples = samples }) samples-fresh
