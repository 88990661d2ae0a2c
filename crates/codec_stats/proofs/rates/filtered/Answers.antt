-- Refusal 10 leaves no reason above 2^41.
use Rattle.std.proofs.Common.{◌<◌, ◌^◌, sum, rules}
use Rattle.codec_stats.proofs.Small.{reasons_fit}
use Rattle.codec_stats.proofs.rates.filtered.Goals as goal

pub sum-requires-clause-fits : goal.sum-requires-clause-fits
sum-requires-clause-fits c =
    let ledger = c.args.ledger in
    let fits : sum ledger.reasons < 2 ^ 64 = reasons_fit ledger (search rules) c.requires in
    search rules
