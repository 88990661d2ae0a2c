-- The reasons are the places 2 to 11.
use Rattle.std.proofs.Common.{ℕ, ◌+◌, ◌∙◌, ap, get_or, arith, rules}
use Rattle.lists.proofs.Tabulate.{tabulate-part}
use Rattle.codec_stats.specs.Counts.{ledger_by}
use Rattle.codec_stats.proofs.ledger.LedgerFromArrayU64COUNTS.from.Goals as goal

pub returns : goal.returns
unfolding ledger_by
returns c =
    let counts = c.args.counts in
    rw (c.copy_from_slice.ensures.after ∙ tabulate-part (λ i. get_or counts (i + 2) 0) counts 2 10 0 (search rules) (λ i h. ap (λ (k : ℕ). get_or counts k 0) (omega arith)))
