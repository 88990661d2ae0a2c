-- The length that is answered counts bytes at the front of the buffer.
use Rattle.std.proofs.Common.{◌∙◌, sym}
use Rattle.sheet_text.proofs.Front.{sheet_front}
use Rattle.sheet_cases.proofs.show_in.Goals as goal

pub slice_bounds-write_all-end : goal.slice_bounds-write_all-end
slice_bounds-write_all-end g c = rw c.write_sheet-answer.ensures.output_after (sheet_front _ _ _ (sym c.write_sheet-answer.ensures.value ∙ c.in-Ok.is)).0

pub slice_bounds-write_all-end-in-Ok : goal.slice_bounds-write_all-end-in-Ok
slice_bounds-write_all-end-in-Ok g c = rw c.write_sheet-answer.ensures.output_after (sheet_front _ _ _ (sym c.write_sheet-answer.ensures.value ∙ c.in-Ok.is)).1
