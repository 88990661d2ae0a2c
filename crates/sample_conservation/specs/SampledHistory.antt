-- Document 02, Req 01: 'one history of the whole list keeps the figures of both'. It is fed calls alone.
use Rattle.std.specs.Prelude.{List, [], ◌∷◌, replicate}
use Rattle.codec_stats.specs.Ledger.{fresh}
use Rattle.sample_ledgers.specs.Samples.{sample_total}
use Rattle.codec_samples.specs.Books.{Books}
use Rattle.codec_samples.specs.SampledCall.{SampledCall, after_sampled}

-- 'the run's and all samples' ledgers fresh at the start'
abbrev pub fresh_books : Books
fresh_books = record { run = fresh; samples = replicate sample_total fresh }

-- the calls in turn
unfoldable pub sampled_history_from : Books → List SampledCall → Books
sampled_history_from books [] = books
sampled_history_from books (c ∷ calls) = sampled_history_from (after_sampled c books) calls

unfoldable pub sampled_history : List SampledCall → Books
sampled_history calls = sampled_history_from fresh_books calls
