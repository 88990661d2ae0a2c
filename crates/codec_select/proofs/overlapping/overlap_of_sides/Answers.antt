-- The definition at the longest of each side.
use Rattle.std.proofs.Common.{◌∙◌}
use Rattle.codec_select.specs.Steps.{overlapping}
use Rattle.codec_select.proofs.overlapping.overlap_of_sides.Goals as goal

pub returns : goal.returns
unfolding overlapping
returns c =
    let first = c.longest_record-first.ensures in
    let second = c.longest_record-second.ensures in
    c.decide.ensures ∙ rw (c.overlap-overlap.ensures, first.aligned, second.aligned, first.orientation, second.orientation)
