-- The fates before are settled, and the others are as they were.
use Rattle.std.proofs.Common.{◌≡◌, map, take}
use Rattle.lists.specs.Written.{written}
use Rattle.caller.specs.Fates.{first_fate}
use Rattle.codec_rejects.proofs.fates.settle.Given as goal

abbrev pub invariant-loop-own : goal.invariant-loop-own
invariant-loop-own l = l.fates ≡ written (map (first_fate l.fate) (take l.own-index l.initial.fates)) l.initial.fates
