-- A flag as a number is its byte.
use Rattle.std.proofs.Common.{rules, ◌≡◌, refl, Bool, true, false}
use mir.Val.{bool_byte}
use Rattle.table_text.proofs.Pages.{appends_then}
use Rattle.answer_text.specs.SelectionText.{flag_number, decision_text}
use Rattle.answer_text.proofs.selection_text.write_selection.Goals as goal

flag-byte : (b : Bool) → bool_byte b ≡ flag_number b
flag-byte true = refl
flag-byte false = refl

pub returns-in-Kept-clause-appended : goal.returns-in-Kept-clause-appended
unfolding decision_text
returns-in-Kept-clause-appended c = rw (c.in-Kept.is, ← flag-byte, ← c.from.ensures) (search (rules, appends_then))
