-- Document 02, Req 11: the answer of the check as numbers.
use Rattle.std.specs.Prelude.{List, [], ◌++◌, ℕ, zero, suc, Result, Ok, Err, codes, decimal}
use Rattle.partner_table.specs.declared.fault.Fault.{Fault}
use Rattle.partner_table.specs.declared.fault.Fault.TheVariants.{Malformed, UnequalLines, Wrong}
use Rattle.partner_table.specs.declared.fault.Field.{Field}
use Rattle.partner_table.specs.declared.fault.Field.TheVariants.{Base, Quality, Depth, Error}
use Rattle.partner_table.specs.declared.fault.Whose.{Whose}
use Rattle.partner_table.specs.declared.fault.Whose.TheVariants.{Ours, Theirs}
use Rattle.partner_table.specs.declared.report.PartnerAnswer.{PartnerAnswer}

-- 1 base, 2 quality, 3 depth, 4 error
abbrev pub field_number : Field → ℕ
field_number Base = 1
field_number Quality = 2
field_number Depth = 3
field_number Error = 4

-- our table is 1, theirs 2
abbrev pub table_number : Whose → ℕ
table_number Ours = 1
table_number Theirs = 2

-- kind 0: accepted; 1: the first wrong line and its first wrong field; 2: a refusal's number, with a line and its table: 27 a malformed line,
-- 28 unequal line counts, of no line and no table
abbrev pub reported_check : Result Unit Fault → PartnerAnswer
reported_check (Ok accepted) = record { kind = 0; number = 0; line = 0; field = 0; table = 0 }
reported_check (Err (Wrong line field)) = record { kind = 1; number = 0; line = line; field = field_number field; table = 0 }
reported_check (Err (Malformed whose line)) = record { kind = 2; number = 27; line = line; field = 0; table = table_number whose }
reported_check (Err UnequalLines) = record { kind = 2; number = 28; line = 0; field = 0; table = 0 }

-- ` TABLE`, where a refusal has one
abbrev pub of_table : ℕ → List ℕ
of_table zero = []
of_table (suc n) = codes " " ++ decimal (suc n)

-- the line of an answer, by its kind: `accepted`, `wrong LINE FIELD`, `refused NUMBER LINE` and its table
abbrev pub answer_text : PartnerAnswer → (kind : ℕ) → List ℕ
answer_text told zero = codes "accepted"
answer_text told (suc zero) = codes "wrong " ++ decimal told.line ++ codes " " ++ decimal told.field
answer_text told (suc (suc more)) = codes "refused " ++ decimal told.number ++ codes " " ++ (decimal told.line ++ of_table told.table)

-- what `check-table` writes of a fault has the numbers that a host is told
abbrev pub fault_text : Fault → List ℕ
fault_text fault = answer_text (reported_check (Err fault)) (reported_check (Err fault)).kind
