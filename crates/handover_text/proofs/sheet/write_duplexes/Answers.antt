use Rattle.std.proofs.Common.{append-nil}
use Rattle.handover_text.specs.Sheet.{counts_text, duplexes_text}
use Rattle.handover_text.proofs.sheet.write_duplexes.Goals as goal

pub returns-clause-appended : goal.returns-clause-appended
unfolding counts_text duplexes_text
returns-clause-appended c = rw append-nil at c.write_counts.ensures.appended
