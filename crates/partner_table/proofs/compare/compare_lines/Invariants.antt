use mathlib.Core.Path.{◌≡◌}
use Prim.Native.Nat.{◌-◌, ◌≤◌}
use lib.ListN.{length}
use Rattle.partner_table.proofs.Lines.{wrong_from}
use Rattle.partner_table.proofs.compare.compare_lines.Given as goal

abbrev pub invariant-loop-at : goal.invariant-loop-at
invariant-loop-at l = (l.at ≤ length l.ours) × (l.given_at ≤ length l.theirs) × (wrong_from l.ours l.theirs 2 l.start l.given ≡ wrong_from l.ours l.theirs l.line l.at l.given_at)

abbrev pub decreases-loop-at : goal.decreases-loop-at
decreases-loop-at l = length l.ours - l.at
