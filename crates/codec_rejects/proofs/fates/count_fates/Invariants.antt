-- The counts are those of the fates before.
use Rattle.std.proofs.Common.{◌≡◌, take}
use Rattle.codec_rejects.specs.Fates.{fate_counts}
use Rattle.codec_rejects.proofs.fates.count_fates.Given as goal

abbrev pub invariant-loop-fate : goal.invariant-loop-fate
invariant-loop-fate l = l.counts ≡ fate_counts (take l.fate-index l.fates)
