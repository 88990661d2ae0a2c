-- What is handed after the lines passed goes on to those left.
use Rattle.std.proofs.Common.{◌≡◌, ◌-◌, ◌≤◌, length}
use Rattle.line_text.specs.Reading.{lines_from}
use Rattle.ledger_lines.specs.Ledgers.{ledgers_from}
use Rattle.ledger_lines.proofs.ledgers.read_ledgers.Given as goal

abbrev pub invariant-loop-setting : goal.invariant-loop-setting
invariant-loop-setting l = (l.at ≤ length l.text) × (ledgers_from l.initial.handed (lines_from l.text l.start) ≡ ledgers_from l.handed (lines_from l.text l.at))

abbrev pub decreases-loop-setting : goal.decreases-loop-setting
decreases-loop-setting l = length l.text - l.at
