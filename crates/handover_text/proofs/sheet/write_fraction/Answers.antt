-- The whole part behind a space, then the point and six digits.
use Rattle.std.proofs.Common.{ℕ, List, [], ◌∷◌, ◌/◌}
use Rattle.table_text.specs.Decimal.{decimal}
use Rattle.table_text.proofs.Pages.{appends_then}
use Rattle.handover_text.specs.Sheet.{digit_at, fraction_text}
use Rattle.handover_text.proofs.sheet.write_fraction.Goals as goal

-- the point and the digits behind it
abbrev six : ℕ → List ℕ
six m = 46 ∷ digit_at 100000 m ∷ digit_at 10000 m ∷ digit_at 1000 m ∷ digit_at 100 m ∷ digit_at 10 m ∷ digit_at 1 m ∷ []

-- The whole part behind a space, then the point and six digits.
pub returns-clause-appended : goal.returns-clause-appended
unfolding fraction_text
returns-clause-appended c =
    let m = c.args.millionths in
    let places = rw (c.digit_at.ensures, c.digit_at-2.ensures, c.digit_at-3.ensures, c.digit_at-4.ensures, c.digit_at-5.ensures, c.digit_at-6.ensures) at c.write.ensures in
    appends_then (32 ∷ decimal (m / 1000000)) (six m) c.write_field.ensures places
