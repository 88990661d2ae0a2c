use Rattle.std.proofs.Common.{◌≡◌, length, take}
use Rattle.lists.specs.Tabulate.{tabulate}
use Rattle.lists.specs.Written.{written}
use Rattle.codec_strands.specs.Masks.{masked_at}
use Rattle.codec_strands.proofs.mask.mask_consensus_quals_query_based.Given as goal

-- The qualities before place i are masked.
abbrev pub invariant-loop-i : goal.invariant-loop-i
invariant-loop-i l = l.quals ≡ written (tabulate (masked_at l.masks l.a l.b (take (length l.a) l.initial.quals) (length l.a)) l.i) l.initial.quals
