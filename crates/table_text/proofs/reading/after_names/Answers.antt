-- The names that were read, as those of a table of such rows.
use Rattle.table_text.proofs.Tables.{names_said}
use Rattle.table_text.proofs.reading.after_names.Goals as goal

pub returns : goal.returns
returns g c = names_said g.R.Row.line_of g.R.Row.names c.args.text.now c.after_line.result (rw c.names.ensures at c.after_line.ensures)
