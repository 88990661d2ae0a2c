use Rattle.std.proofs.Common.{◌∙◌, arith}
use Rattle.sample_ledgers.proofs.Flat.{counts_put}
use Rattle.sample_ledgers.proofs.samples.store_sample.Goals as goal

pub returns : goal.returns
returns c =
    counts_put c.args.samples.now c.args.sample c.args.ledger _ _ (omega arith) (omega arith) (c.copy_from_slice.ensures.after ∙ c.from-counts.ensures)
