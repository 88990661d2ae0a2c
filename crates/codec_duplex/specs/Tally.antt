-- The two tallies of a pair of base columns.
use Rattle.std.specs.Prelude.{Bool, not, ◌&&◌, List, ℕ, eqb, length, get_or}
use Rattle.lists.specs.Count.{count_below}
use Rattle.codec_duplex.specs.Position.{has_data}
use Rattle.codec_duplex.specs.declared.tally.DuplexBaseTally.{DuplexBaseTally}

-- both strands call position i
unfoldable pub both_call : List ℕ → List ℕ → ℕ → Bool
both_call a b i = has_data (get_or a i 0) && has_data (get_or b i 0)

-- both strands call position i, and their bases differ
unfoldable pub disagree : List ℕ → List ℕ → ℕ → Bool
disagree a b i = both_call a b i && not (eqb (get_or a i 0) (get_or b i 0))

-- the positions that both strands call, and the disagreements among them
unfoldable pub tallied : List ℕ → List ℕ → DuplexBaseTally
tallied a b = record { bases = count_below (both_call a b) (length a); disagreements = count_below (disagree a b) (length a) }
