use Rattle.std.proofs.Common.{◌≡◌, take}
use Rattle.lists.specs.Written.{written}
use Rattle.codec_strands.proofs.column.copy.Given as goal

abbrev pub invariant-loop-i : goal.invariant-loop-i
invariant-loop-i g l = l.places ≡ written (take l.i l.column) l.initial.places
