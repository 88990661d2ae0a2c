use Rattle.std.proofs.Common.{◌+◌, ◌*◌, ◌≤◌, take}
use Rattle.table_text.specs.Page.{Appends}
use Rattle.answer_text.specs.Line.{fields_by}
use Rattle.answer_text.proofs.line.write_fields.Given as goal

abbrev pub invariant-loop-n : goal.invariant-loop-n
invariant-loop-n g l = record {
  appended : Appends (fields_by g.N.Field.number (take l.n-index l.numbers)) l.initial.page l.page;
  short : l.page.end ≤ l.initial.page.end + g.N.Field.widest * l.n-index;
}
