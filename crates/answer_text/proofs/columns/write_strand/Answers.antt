-- Four lines, each as long as the part of its column.
use Rattle.std.proofs.Common.{rules, ℕ, arith, length-take}
use Rattle.table_text.proofs.Pages.{appends_then}
use Rattle.answer_text.specs.FamilyText.{strand_text}
use Rattle.answer_text.proofs.columns.write_strand.Goals as goal

pub write_line-requires : goal.write_line-requires
write_line-requires c = omega (arith, length-take {A = ℕ})

pub write_line-requires-2 : goal.write_line-requires-2
write_line-requires-2 c = omega (arith, length-take {A = ℕ})

pub write_line-requires-3 : goal.write_line-requires-3
write_line-requires-3 c = omega (arith, length-take {A = ℕ})

pub returns-clause-appended : goal.returns-clause-appended
unfolding strand_text
returns-clause-appended c = search (rules, appends_then)

pub returns-clause-upper_bound : goal.returns-clause-upper_bound
returns-clause-upper_bound c = omega (arith, length-take {A = ℕ})
