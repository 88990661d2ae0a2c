-- A line is read as the bases that it says.
use Rattle.std.proofs.Common.{rules}
use Rattle.line_text.proofs.Readings.{line_reads}
use Rattle.line_text.specs.Bases.{bases_line}
use Rattle.strand_lines.proofs.column.next_bases.Goals as goal

pub returns : goal.returns
returns c = line_reads bases_line (λ bases. bases.now) (λ line r said. search rules) c.requires c.next_line.ensures
