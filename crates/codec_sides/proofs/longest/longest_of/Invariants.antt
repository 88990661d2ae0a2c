-- The longest of the records before place k, with its reference bases.
use Rattle.std.proofs.Common.{◌≡◌, get_or}
use Rattle.codec_sides.specs.Side.{reference_bases_of}
use Rattle.codec_sides.proofs.Most.{Leads}
use Rattle.codec_sides.proofs.longest.longest_of.Given as goal

abbrev pub invariant-loop-k : goal.invariant-loop-k
invariant-loop-k l =
    (l.most ≡ reference_bases_of l.ops l.starts l.counts (get_or l.side l.longest 0)) × Leads (λ j. reference_bases_of l.ops l.starts l.counts (get_or l.side j 0)) l.longest l.k
