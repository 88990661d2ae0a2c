-- The words fit their room.
use Rattle.std.proofs.Common.{◌≤◌}
use Rattle.cigar_cases.proofs.cigar.Cigar.parse.Given as goal

abbrev pub invariant-loop-c : goal.invariant-loop-c
invariant-loop-c l = l.len ≤ 64
