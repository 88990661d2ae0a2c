-- The simplified lists and the groups of a side's records.
use Rattle.std.specs.Prelude.{List, ℕ}
use Rattle.vanilla_caller.specs.Side.{list_of}
use Rattle.vanilla_caller.specs.declared.side.Side.{Side}

abbrev pub lists_of : Side → ℕ → List ℕ
lists_of side = list_of side.ops.now side.starts.now side.counts.now side.reverse.now
