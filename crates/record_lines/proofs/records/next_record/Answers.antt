-- A line is read as the record that it says.
use Rattle.std.proofs.Common.{◌≡◌, rules, ◌∙◌}
use Rattle.std.proofs.lemmas.Iterator.Adapters.{option_map_id}
use Rattle.line_text.proofs.Readings.{line_reads}
use Rattle.record_lines.specs.Record.{record_of}
use Rattle.record_lines.proofs.records.next_record.Goals as goal

pub returns : goal.returns
returns c = line_reads record_of (λ r. r) (λ line r said. let is : r ≡ record_of line.now = search rules in option_map_id r ∙ is) c.requires c.next_line.ensures
