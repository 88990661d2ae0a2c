-- A line is read as the numbers that it says.
use Rattle.std.proofs.Common.{rules, map, length}
use Rattle.line_text.proofs.Readings.{line_reads}
use Rattle.line_text.specs.Numbers.{numbers_line}
use Rattle.strand_lines.proofs.column.next_numbers.Goals as goal

pub returns : goal.returns
returns g c = line_reads (numbers_line c.args.tag.now g.T.Entry.GREATEST (length c.args.column.now)) (λ numbers. map g.T.Entry.number numbers.now) (λ line r said. search rules) c.requires c.next_line.ensures
