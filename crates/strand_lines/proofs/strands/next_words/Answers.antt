-- A line is read as the words that it says.
use Rattle.std.proofs.Common.{rules, length}
use Rattle.line_text.proofs.Readings.{line_reads}
use Rattle.line_text.specs.Numbers.{words_line}
use Rattle.strand_lines.proofs.strands.next_words.Goals as goal

pub returns : goal.returns
returns c = line_reads (words_line (length c.args.room.now)) (λ words. words.now) (λ line r said. search rules) c.requires c.next_line.ensures
