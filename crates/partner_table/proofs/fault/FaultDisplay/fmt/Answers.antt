-- The digits of 27 and 28 stand in what is written.
use Rattle.std.proofs.Common.{◌≡◌, ℕ, List, ◌++◌, refl, sym, ap, ◌∙◌, rules}
use Rattle.std.proofs.Output.{has_written_of_eq}
use Rattle.std.specs.Fmt.{digits}
use Rattle.std.specs.Prelude.{codes, decimal}
use Rattle.partner_table.specs.Reported.{table_number, fault_text}
use Rattle.partner_table.specs.declared.fault.Fault.TheVariants.{Malformed, UnequalLines}
use Rattle.partner_table.specs.declared.fault.Whose.{Whose}
use Rattle.partner_table.specs.declared.fault.Whose.TheVariants.{Ours, Theirs}
use Rattle.partner_table.proofs.fault.FaultDisplay.fmt.Goals as goal

number_27 : decimal 27 ≡ codes "27"
unfolding digits
number_27 = refl

-- what is written of a malformed line, and what the numbers of it say
malformed_text : (whose : Whose) (line : ℕ) → codes "refused 27 " ++ (decimal line ++ (codes " " ++ decimal (table_number whose))) ≡ fault_text (Malformed whose line)
malformed_text Ours line = ap (λ (number : List ℕ). codes "refused " ++ number ++ codes " " ++ (decimal line ++ (codes " " ++ decimal 1))) (sym number_27)
malformed_text Theirs line = ap (λ (number : List ℕ). codes "refused " ++ number ++ codes " " ++ (decimal line ++ (codes " " ++ decimal 2))) (sym number_27)

unequal_text : codes "refused 28 0" ≡ fault_text UnequalLines
unfolding digits
unequal_text = refl

pub returns-in-Malformed-clause-writes : goal.returns-in-Malformed-clause-writes
returns-in-Malformed-clause-writes g c =
    let whose = c.in-Malformed.whose in
    let line = c.in-Malformed.line in
    let text = ap (λ (n : ℕ). codes "refused 27 " ++ (decimal line ++ (codes " " ++ decimal n))) c.from.ensures ∙ malformed_text whose line in
    λ plain ok. rw c.in-Malformed.is (has_written_of_eq _ _ _ _ _ text (c.write.ensures.writes plain ok))

pub returns-in-UnequalLines-clause-writes : goal.returns-in-UnequalLines-clause-writes
returns-in-UnequalLines-clause-writes g c = λ plain ok. rw c.in-UnequalLines.is (has_written_of_eq _ _ _ _ _ unequal_text (search rules))
