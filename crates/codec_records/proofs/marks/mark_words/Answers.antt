-- The first n of the local flags are those of the side.
use mathlib.Core.Path.{◌≡◌}
use lib.ListN.{take}
use Rattle.codec_records.specs.Marks.{side_flags}
use Rattle.codec_records.proofs.Words.{side_flagged}
use Rattle.codec_records.proofs.marks.mark_words.Goals as goal
use Rattle.codec_records.proofs.marks.mark_words.Goals.{After-flag_records}

own-flags : (c : After-flag_records) → let args = c.args in take args.n c.flag_records.new.flags ≡ side_flags args.side.now args.n
own-flags c =
    rw c.flag_records.ensures (side_flagged c.args.side.now c.args.n 512 c.requires.n_bound)

pub returns : goal.returns
returns c = rw (own-flags (goal.at.returns c).After-flag_records) at c.marks_of.ensures
