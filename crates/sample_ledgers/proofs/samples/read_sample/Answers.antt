use Rattle.std.proofs.Common.{◌∙◌, arith}
use Rattle.sample_ledgers.proofs.Flat.{ledger_copied}
use Rattle.sample_ledgers.proofs.samples.read_sample.Goals as goal

pub returns : goal.returns
returns c =
    c.from.ensures ∙ ledger_copied c.args.samples.now c.args.sample _ _ (omega arith) (omega arith) c.copy_from_slice.ensures.after
