-- The fates of the first i records are written.
use Rattle.std.proofs.Common.{◌≡◌}
use Rattle.lists.specs.Tabulate.{tabulate}
use Rattle.lists.specs.Written.{written}
use Rattle.codec_pairing.specs.Family.{fate_of}
use Rattle.codec_pairing.proofs.pairing.write_fates.Given as goal

abbrev pub invariant-loop-i : goal.invariant-loop-i
invariant-loop-i l = l.fates ≡ written (tabulate (fate_of l.family) l.i) l.initial.fates
