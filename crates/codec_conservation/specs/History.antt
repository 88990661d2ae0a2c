-- Document 01, 'Demand 3': the history of a list of calls. It is fed calls alone.
use Rattle.std.specs.Prelude.{List, [], ◌∷◌}
use Rattle.codec_stats.specs.Ledger.{Counts, fresh}
use Rattle.codec_family.specs.Call.{Call}
use Rattle.codec_family.specs.Counted.{after_call}

-- the calls in turn
unfoldable pub history_from : Counts → List Call → Counts
history_from counts [] = counts
history_from counts (c ∷ calls) = history_from (after_call c counts) calls

-- 'keeps the ledger's counts, from 0'
unfoldable pub history : List Call → Counts
history calls = history_from fresh calls
