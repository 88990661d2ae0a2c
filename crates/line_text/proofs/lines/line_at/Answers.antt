-- By the test: the line is ended, or the text ends in it.
use Rattle.std.proofs.Common.{arith}
use Rattle.table_text.proofs.Partings.{part_ended, part_last}
use Rattle.line_text.specs.Reading.{one_line}
use Rattle.line_text.proofs.lines.line_at.Goals as goal

pub returns-then-end-text-clause-reads : goal.returns-then-end-text-clause-reads
unfolding one_line
returns-then-end-text-clause-reads c = record { same = rw (part_ended 10 _ _ _ c.part_end-end.ensures.0 c.if-end-text.true); within = omega arith }

pub returns-else-end-text-clause-reads : goal.returns-else-end-text-clause-reads
unfolding one_line
returns-else-end-text-clause-reads c = record { same = rw (part_last 10 _ _ _ c.part_end-end.ensures.0 (omega arith) c.if-end-text.false); within = omega arith }
