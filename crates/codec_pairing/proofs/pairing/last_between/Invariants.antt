-- No record of the name that remains stands between record i and the last looked at.
use Rattle.std.proofs.Common.{◌≡◌, ◌≤◌}
use Rattle.codec_pairing.specs.Family.{namesakes_from}
use Rattle.codec_pairing.proofs.pairing.last_between.Given as goal

abbrev pub invariant-loop-i : goal.invariant-loop-i
invariant-loop-i l =
    record {
      order : l.from ≤ l.i;
      passed : namesakes_from l.family l.name l.i ≡ namesakes_from l.family l.name l.to;
    }
