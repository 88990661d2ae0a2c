-- No record of the name that remains stands between the next 64 and record i.
use Rattle.std.proofs.Common.{◌≡◌, ◌≤◌}
use Rattle.codec_pairing.specs.Family.{name_of, namesakes_from}
use Rattle.codec_pairing.proofs.pairing.previous_namesake.Given as goal

abbrev pub invariant-loop-end : goal.invariant-loop-end
invariant-loop-end l =
    record {
      within : l.end ≤ l.i;
      passed : namesakes_from l.family (name_of l.family l.i) l.end ≡ namesakes_from l.family (name_of l.family l.i) l.i;
    }

abbrev pub decreases-loop-end : goal.decreases-loop-end
decreases-loop-end l = l.end
