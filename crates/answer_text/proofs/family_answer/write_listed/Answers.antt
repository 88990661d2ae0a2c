use Rattle.std.proofs.Common.{◌∷◌}
use Rattle.table_text.specs.Decimal.{decimal}
use Rattle.table_text.proofs.Pages.{appends_then, appends_after}
use Rattle.answer_text.proofs.family_answer.write_listed.Goals as goal

pub returns-clause-appended : goal.returns-clause-appended
returns-clause-appended c =
    let field = rw c.from.ensures at c.write_field.ensures in
    let reason = rw c.from-2.ensures at c.write_decimal.ensures in
    appends_then (32 ∷ decimal c.args.record) (58 ∷ decimal c.args.reason) field (appends_after 58 (decimal c.args.reason) c.push.ensures reason)
