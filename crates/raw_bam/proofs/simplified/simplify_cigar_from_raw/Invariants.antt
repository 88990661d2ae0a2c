-- What the operations passed join to is written.
use Rattle.std.proofs.Common.{map, ◌*◌, ◌-◌, ◌≤◌, ◌<◌, get_or, take}
use Rattle.std.proofs.Math.Dec.{eqb}
use Rattle.raw_bam.specs.Simplified.{simple_entry}
use Rattle.raw_bam.proofs.InOrder.{in_order}
use Rattle.raw_bam.proofs.Joining.{JoinedIn}
use Rattle.raw_bam.proofs.simplified.simplify_cigar_from_raw.Given as goal

abbrev pub invariant-loop-i : goal.invariant-loop-i
invariant-loop-i l =
    record {
      done : JoinedIn eqb (map simple_entry (take l.i (in_order l.reverse l.ops))) l.initial.entries l.entries l.n;
      few : l.n ≤ l.i;
      last_fits : 0 < l.n → get_or l.entries (l.n - 1) 0 ≤ 4294967295 * l.i;
    }
