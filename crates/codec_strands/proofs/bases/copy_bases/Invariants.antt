use Rattle.std.proofs.Common.{◌≡◌, map, reverse, take}
use Rattle.lists.specs.Written.{written}
use Rattle.codec_strands.specs.Strands.{complement}
use Rattle.codec_strands.proofs.bases.copy_bases.Given as goal

abbrev pub invariant-loop-i : goal.invariant-loop-i
invariant-loop-i l = l.places ≡ written (take l.i (reverse (map complement l.bases))) l.initial.places
