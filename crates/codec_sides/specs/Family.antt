-- The words of steps 4 to 6 on a family that is lent.
use Rattle.std.specs.Prelude.{Bool, List, ℕ}
use Rattle.codec_records.specs.declared.family.Family.{Family}
use Rattle.codec_records.specs.declared.options.Options.{Options}
use Rattle.codec_sides.specs.Side as columns

abbrev pub HasOperations : Family → ℕ → Type 0
HasOperations f r = columns.HasOperations f.ops.now f.starts.now f.counts.now r

abbrev pub HaveOperations : Family → List ℕ → Type 0
HaveOperations f side = columns.HaveOperations f.ops.now f.starts.now f.counts.now side

abbrev pub in_group : Family → List ℕ → List Bool
in_group f side = columns.in_group f.ops.now f.clipped.now f.starts.now f.counts.now f.flags.now side

abbrev pub under_cap : Family → ℕ → List ℕ → List Bool
under_cap f cap side = columns.under_cap f.ranks.now cap side

abbrev pub capped : Options → Family → List ℕ → List ℕ
capped o f side = columns.capped o f.ranks.now side

abbrev pub with_excess : Options → Family → List ℕ → List ℕ → List ℕ
with_excess o f side fates = columns.with_excess o f.ranks.now side fates

abbrev pub reference_bases_of : Family → ℕ → ℕ
reference_bases_of f r = columns.reference_bases_of f.ops.now f.starts.now f.counts.now r

abbrev pub longest_of : Family → List ℕ → ℕ
longest_of f side = columns.longest_of f.ops.now f.starts.now f.counts.now side
