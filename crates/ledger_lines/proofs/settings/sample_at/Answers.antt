-- A sample's number is at most 95.
use Rattle.std.proofs.Common.{sym, arith}
use Rattle.table_text.proofs.FieldLists.{number_field_le}
use Rattle.ledger_lines.proofs.settings.sample_at.Goals as goal

pub returns-clause-settable : goal.returns-clause-settable
returns-clause-settable c = omega (arith, number_field_le _ _ _ _ (sym c.in_ok-sample.ensures))
