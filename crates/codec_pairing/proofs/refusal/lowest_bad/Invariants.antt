-- No record before record i is entered and bad.
use Rattle.std.proofs.Common.{◌≡◌, Bool}
use Rattle.codec_pairing.specs.declared.refusal.Read.{Read}
use Rattle.codec_pairing.specs.Family.{reads}
use Rattle.codec_pairing.specs.Refusals.{Tests, lowest_bad}
use Rattle.codec_pairing.proofs.Refusing.{lowest_from}
use Rattle.codec_pairing.proofs.refusal.lowest_bad.Given as goal

abbrev pub invariant-loop-i : goal.invariant-loop-i
invariant-loop-i g l =
    (bad : Read → Bool) → Tests (goal.F-post g l.is_bad) bad → lowest_bad bad (reads l.fates l.family) ≡ lowest_from bad (reads l.fates l.family) l.i
