use Rattle.std.proofs.Common.{rules}
use Rattle.table_text.proofs.Pages.{appends_then}
use Rattle.answer_text.specs.FamilyText.{columns_text}
use Rattle.answer_text.proofs.family_answer.write_columns.Goals as goal

pub returns-clause-appended : goal.returns-clause-appended
unfolding columns_text
returns-clause-appended c = search (rules, appends_then)
