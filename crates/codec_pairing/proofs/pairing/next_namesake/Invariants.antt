-- No record of the name that remains stands before the next 64.
use Rattle.std.proofs.Common.{◌≡◌, ◌≤◌, ◌-◌, length}
use Rattle.codec_pairing.specs.Family.{namesakes_from}
use Rattle.codec_pairing.proofs.pairing.next_namesake.Given as goal

abbrev pub invariant-loop-start : goal.invariant-loop-start
invariant-loop-start l =
    record {
      after : l.from ≤ l.start;
      within : l.start ≤ length l.family.flags.now;
      passed : namesakes_from l.family l.name l.from ≡ namesakes_from l.family l.name l.start;
    }

abbrev pub decreases-loop-start : goal.decreases-loop-start
decreases-loop-start l = length l.family.flags.now - l.start
