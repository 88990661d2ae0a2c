-- What is answered of two tables, by the first malformed line of each.
use Rattle.std.proofs.Common.{◌≡◌, ℕ, List, Err}
use Rattle.table_text.specs.InputTable.{table_of}
use Rattle.table_text.specs.OutputReading.{partner_table}
use Rattle.table_text.specs.declared.reading.Malformed.{Malformed}
use Rattle.partner_table.specs.Check.{checked, compared, WellFormed}
use Rattle.partner_table.specs.declared.fault.Fault.TheVariants as faults
use Rattle.partner_table.specs.declared.fault.Whose.TheVariants.{Ours, Theirs}

module _ (ours theirs : List ℕ) (malformed : Malformed) where
  pub ours_malformed : (table_of ours).ending ≡ Err malformed → Err (faults.Malformed Ours malformed.line) ≡ checked ours theirs
  unfolding checked
  ours_malformed e = rw e

  pub theirs_malformed : WellFormed (table_of ours) → (partner_table theirs).ending ≡ Err malformed → Err (faults.Malformed Theirs malformed.line) ≡ checked ours theirs
  unfolding checked
  theirs_malformed formed e = rw (formed, e)

pub both_formed : (ours theirs : List ℕ) → WellFormed (table_of ours) → WellFormed (partner_table theirs) → compared (table_of ours).rows (partner_table theirs).rows ≡ checked ours theirs
unfolding checked
both_formed ours theirs formed partner_formed = rw (formed, partner_formed)
