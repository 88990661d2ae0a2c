-- The byte goes on where the digits end.
use Rattle.std.proofs.Common.{◌≡◌, ◌+◌, length, ℕ, [], ◌∷◌, arith}
use Rattle.std.proofs.Math.ListN.{length-append}
use Rattle.table_text.specs.Decimal.{decimal}
use Rattle.table_text.specs.OutputTable.{number_text}
use Rattle.table_text.proofs.Pages.{appends_then}
use Rattle.table_text.proofs.page.Page.write_number.Goals as goal

longer : (n after : ℕ) → length (number_text n after) ≡ length (decimal n) + 1
unfolding number_text
longer n after = length-append (decimal n) (after ∷ [])

pub write_decimal-requires : goal.write_decimal-requires
write_decimal-requires c = omega (arith, longer c.args.n c.args.after)

pub push-requires : goal.push-requires
push-requires c = omega (arith, longer c.args.n c.args.after)

pub returns : goal.returns
unfolding number_text
returns c = appends_then (decimal c.args.n) (c.args.after ∷ []) c.write_decimal.ensures c.push.ensures
