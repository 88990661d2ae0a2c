use Rattle.std.proofs.Common.{◌≡◌}
use Rattle.codec_pairing.specs.Family.{namesakes_from}
use Rattle.codec_pairing.proofs.pairing.first_between.Given as goal

abbrev pub invariant-loop-i : goal.invariant-loop-i
invariant-loop-i l = namesakes_from l.family l.name l.from ≡ namesakes_from l.family l.name l.i
