-- What the bases passed join to is written, once the word at hand is stored.
use Rattle.std.proofs.Common.{◌+◌, ◌*◌, ◌<◌, ◌≤◌}
use Rattle.std.proofs.Math.Dec.{eqb}
use Rattle.std.proofs.Math.ListN.{set}
use Rattle.raw_bam.proofs.Joining.{JoinedIn}
use Rattle.extended_cigar.specs.Extended.{base_by_base}
use Rattle.extended_cigar.proofs.there.write_match.Given as goal

abbrev pub invariant-loop-k : goal.invariant-loop-k
invariant-loop-k l =
    record {
      done : JoinedIn eqb (base_by_base l.read l.reference 0 0 l.k) l.initial.output (set l.output l.n l.last) (l.n + 1);
      few : l.n < l.k;
      fits : l.last ≤ 31 * l.k;
    }
