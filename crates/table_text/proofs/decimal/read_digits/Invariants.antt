use mathlib.Core.Path.{◌≡◌}
use Prim.Native.Nat.{◌-◌, ◌≤◌}
use lib.ListN.{length, drop}
use Rattle.table_text.specs.Decimal.{digits_number}
use Rattle.table_text.proofs.decimal.read_digits.Given as goal

abbrev pub invariant-loop-byte : goal.invariant-loop-byte
invariant-loop-byte l = (l.byte-index ≤ length l.field) × (l.value ≤ l.limit) × (digits_number l.limit 0 l.field ≡ digits_number l.limit l.value (drop l.byte-index l.field))

abbrev pub decreases-loop-byte : goal.decreases-loop-byte
decreases-loop-byte l = length l.field - l.byte-index
