-- The sums are those of the places.
use Rattle.std.proofs.Common.{rules}
use Rattle.lists.proofs.Tabulate.{tabulate_by_all}
use Rattle.codec_stats.proofs.ledger.added_reasons.Goals as goal

pub returns : goal.returns
returns c = tabulate_by_all _ c.from_fn.result 10 0 (search rules) (search rules)
