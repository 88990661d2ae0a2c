-- The place grows at each turn and stays in the text; what the families so far do to what is handed.
use Rattle.std.proofs.Common.{◌-◌, ◌≤◌, length}
use Rattle.line_text.specs.Reading.{lines_from}
use Rattle.family_windows.specs.Going.{Goes}
use Rattle.family_windows.specs.Pages.{KeepsBuffer}
use Rattle.family_windows.proofs.passes.answer_window.Given as goal

abbrev pub invariant-loop-at : goal.invariant-loop-at
invariant-loop-at g l = record {
  within : l.at ≤ length l.text;
  kept : KeepsBuffer l.fn.page l.page;
  goes : Goes g.S.Service.hands_on l.fn.course.handed (lines_from l.text 0) l.course.handed (lines_from l.text l.at);
}

abbrev pub decreases-loop-at : goal.decreases-loop-at
decreases-loop-at g l = length l.text - l.at
