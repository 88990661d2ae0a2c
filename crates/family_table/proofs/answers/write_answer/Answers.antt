use Rattle.std.proofs.Common.{rules}
use Rattle.table_text.proofs.Pages.{appends_then}
use Rattle.family_table.proofs.answers.write_answer.Goals as goal

pub returns : goal.returns
returns c = search (rules, appends_then)
