-- One is among those asked, or among those left.
use Rattle.std.proofs.Common.{◌≡◌}
use mathlib.Core.Bool.{◌||◌}
use Rattle.codec_pairing.specs.Search.{has_namesake_between}
use Rattle.codec_pairing.proofs.pairing.has_namesake_between.Given as goal

abbrev pub invariant-loop-k : goal.invariant-loop-k
invariant-loop-k l =
    let f = l.family in
    has_namesake_between f.flags.now f.names.now l.name l.from l.to ≡ l.any || has_namesake_between f.flags.now f.names.now l.name l.k l.to
