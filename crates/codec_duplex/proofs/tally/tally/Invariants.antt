use Rattle.std.proofs.Common.{◌≡◌, ◌≤◌}
use Rattle.lists.specs.Count.{count_below}
use Rattle.codec_duplex.specs.Tally.{both_call, disagree}
use Rattle.codec_duplex.proofs.tally.tally.Given as goal

abbrev pub invariant-loop-i : goal.invariant-loop-i
invariant-loop-i l =
    record {
      bases : l.bases ≡ count_below (both_call l.a l.b) l.i;
      disagreements : l.disagreements ≡ count_below (disagree l.a l.b) l.i;
      few : (l.bases ≤ l.i) × (l.disagreements ≤ l.i);
    }
