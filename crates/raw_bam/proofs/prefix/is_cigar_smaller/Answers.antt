use Rattle.std.proofs.Common.{◌∙◌}
use Rattle.raw_bam.proofs.Prefixes.{smaller_order}
use Rattle.raw_bam.proofs.prefix.is_cigar_smaller.Goals as goal

pub returns : goal.returns
returns c = c.lt.ensures ∙ smaller_order c.args.a.now c.args.b.now
