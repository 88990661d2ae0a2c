-- Document 02, Req 01: 'Keep a ledger for each sample number 0 to 95 beside the run's ledger'.
use Rattle.std.specs.Prelude.{List, ℕ, get_or}
use Rattle.codec_stats.specs.Ledger.{Counts, fresh}
use Rattle.sample_ledgers.specs.Samples.{samples_of}

-- the run's counts and the samples', which a history keeps too
pub record Books : Type 0 where
  pub run : Counts
  pub samples : List Counts

-- the books that a family call is handed: the run's ledger, and the samples' as one array
abbrev pub books_of : Counts → List ℕ → Books
books_of run flat = record { run = run; samples = samples_of flat }

-- the counts of one sample
abbrev pub sample_of : ℕ → List Counts → Counts
sample_of s samples = get_or samples s fresh
