use Rattle.std.proofs.Common.{◌≡◌, take}
use Rattle.codec_pairing.specs.Search.{has_name}
use Rattle.codec_pairing.proofs.pairing.has_name.Given as goal

abbrev pub invariant-loop-other : goal.invariant-loop-other
invariant-loop-other l = l.any ≡ has_name (take l.other-index l.names) l.name
