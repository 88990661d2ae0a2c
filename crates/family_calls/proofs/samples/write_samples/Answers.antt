-- The text stands at the front of the output.
use Rattle.std.proofs.Common.{sym, ◌∙◌}
use Rattle.sheet_text.proofs.Front.{sheet_front}
use Rattle.family_calls.proofs.samples.write_samples.Goals as goal

pub slice_bounds-write_out-end : goal.slice_bounds-write_out-end
slice_bounds-write_out-end g c = rw c.write_sheet.ensures.output_after (sheet_front _ _ _ (sym c.write_sheet.ensures.value ∙ c.in-Ok.is)).0

pub slice_bounds-write_out-end-in-Ok : goal.slice_bounds-write_out-end-in-Ok
slice_bounds-write_out-end-in-Ok g c = rw c.write_sheet.ensures.output_after (sheet_front _ _ _ (sym c.write_sheet.ensures.value ∙ c.in-Ok.is)).1
