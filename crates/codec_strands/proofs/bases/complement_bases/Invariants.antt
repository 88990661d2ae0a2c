-- The bases before the place are complemented.
use Rattle.std.proofs.Common.{◌≡◌, map, take}
use Rattle.lists.specs.Written.{written}
use Rattle.codec_strands.specs.Strands.{complement}
use Rattle.codec_strands.proofs.bases.complement_bases.Given as goal

abbrev pub invariant-loop-base : goal.invariant-loop-base
invariant-loop-base l = l.bases ≡ written (map complement (take l.base-index l.initial.bases)) l.initial.bases
