-- The ten reasons are written out, and the counts stand in one list.
use Rattle.std.proofs.Common.{rules, ◌∙◌, sym}
use Rattle.lists.specs.Tabulate.{tabulate}
use Rattle.codec_stats.specs.Counts.{counts_of}
use Rattle.codec_stats.proofs.Counts.{reasons_back}
use Rattle.codec_stats.proofs.ledger.ArrayU64COUNTSFromLedger.from.Goals as goal

pub returns : goal.returns
unfolding counts_of tabulate
returns c =
    rw (c.copy_from_slice.ensures.after ∙ sym (reasons_back c.args.ledger (search rules)), c.copy_from_slice-2.ensures.after)
