-- Every count but the first, by the definition's two tests.
use Rattle.std.proofs.Common.{ap, ◌∙◌, take, drop, rules}
use Rattle.std.specs.List.{list_all}
use Rattle.codec_stats.specs.Ledger.{within_limit, too_large}
use Rattle.codec_stats.proofs.Counts.{others_counted}
use Rattle.codec_stats.proofs.refusals.is_too_large.Goals as goal

pub returns : goal.returns
unfolding too_large
returns c =
    let others = ap (λ counts. take 19 (drop 1 counts)) c.from-counts.ensures ∙ others_counted c.args.ledger (search rules) in
    rw (c.are_within.ensures ∙ ap (list_all within_limit) others)
