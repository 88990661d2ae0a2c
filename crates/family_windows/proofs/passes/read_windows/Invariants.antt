-- The offset grows at each turn and stays within the file; no more lines are passed than bytes; the page keeps its buffer.
use Rattle.std.proofs.Common.{◌-◌, ◌≤◌}
use Rattle.family_windows.specs.Pages.{KeepsBuffer}
use Rattle.family_windows.proofs.passes.read_windows.Given as goal

abbrev pub invariant-loop-offset : goal.invariant-loop-offset
invariant-loop-offset g l = record {
  within : l.offset ≤ l.size;
  few : l.lines_passed ≤ l.offset;
  kept : KeepsBuffer l.initial.page l.page;
}

abbrev pub decreases-loop-offset : goal.decreases-loop-offset
decreases-loop-offset g l = l.size - l.offset
