-- The first i flags are those of the first i fates.
use Rattle.std.proofs.Common.{◌≡◌, map, take}
use Rattle.lists.specs.Written.{written}
use Rattle.caller.specs.Fates.{is_marked}
use Rattle.codec_rejects.proofs.rejects.write_marks.Given as goal

abbrev pub invariant-loop-i : goal.invariant-loop-i
invariant-loop-i l = l.flags ≡ written (map is_marked (take l.i l.fates)) l.initial.flags
