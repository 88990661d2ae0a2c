-- The values of the fields passed, with what the fields left say.
use Rattle.std.proofs.Common.{◌≡◌, length, drop, take}
use Rattle.table_text.specs.Fields.{fields_from}
use Rattle.line_text.specs.Line.{in_front, values_of}
use Rattle.line_text.proofs.line.read_fields.Given as goal

abbrev pub invariant-loop-i : goal.invariant-loop-i
invariant-loop-i g l =
    (length l.values ≡ g.row.N) × (values_of l.layout (fields_from l.line l.start) ≡ in_front (take l.i l.values) (values_of (drop l.i l.layout) (fields_from l.line l.at)))
