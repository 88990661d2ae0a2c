-- Settling keeps how many records have a fate.
use mathlib.Core.List.{List}
use mathlib.Core.Path.{◌≡◌}
use Prim.Native.Nat.{ℕ}
use lib.ListN.{length, length-map}
use Rattle.caller.specs.Fates.{first_fate}
use Rattle.codec_rejects.specs.Fates.{settled}

pub length-settled : (fate : ℕ) (fates : List ℕ) → length (settled fate fates) ≡ length fates
unfolding settled
length-settled fate fates = length-map fates (first_fate fate)
