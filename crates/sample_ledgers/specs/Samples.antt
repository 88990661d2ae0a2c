-- Document 02, Req 01: the samples' ledgers, lent as one array of 96 times 20 numbers.
use Rattle.std.specs.Prelude.{List, ℕ, ◌+◌, ◌*◌, ◌/◌, ◌%◌, get_or}
use Rattle.lists.specs.Tabulate.{tabulate}
use Rattle.codec_stats.specs.Counts.{counts_of, ledger_by}
use Rattle.codec_stats.specs.Ledger.{Counts, fresh}
use Rattle.codec_stats.specs.declared.ledger.Ledger.{Ledger}

-- 'up to 96 samples'
abbrev pub sample_total : ℕ
sample_total = 96

-- ledger s is the places 20 s to 20 s + 19
abbrev pub ledger_at : List ℕ → ℕ → Ledger
ledger_at flat s = ledger_by (λ j. get_or flat (20 * s + j) 0)

-- the ledgers that such an array holds
unfoldable pub samples_of : List ℕ → List Counts
samples_of flat = tabulate (ledger_at flat) sample_total

-- the array that holds such ledgers
unfoldable pub flat_of : List Counts → List ℕ
flat_of samples = tabulate (λ i. get_or (counts_of (get_or samples (i / 20) fresh)) (i % 20) 0) 1920
