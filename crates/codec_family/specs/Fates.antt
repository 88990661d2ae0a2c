-- Document 01, 'A family': the fate of each record by steps 1 to 9.
use Rattle.std.specs.Prelude.{List, ◌≡◌, ℕ, ◌≤◌, ◌<◌, length, get_or}
use Rattle.caller.specs.Fates.{undecided_number, no_strand_number, used_number}
use Rattle.caller.specs.Reasons.{number_of}
use Rattle.caller.specs.declared.reason.RejectionReason.TheVariants.{HighDuplexDisagreement}
use Rattle.codec_rejects.specs.Fates.{settled}
use Rattle.codec_family.specs.Call.{Call}
use Rattle.codec_family.specs.Ending.{selection, ending}
use Rattle.codec_family.specs.declared.ending.Ending.{Ending}
use Rattle.codec_family.specs.declared.ending.Ending.TheVariants.{Called, Empty, NoStrand, Rejected, Disagreeing, Refused}

-- 'a reason that ends the family, no strand, or used where a duplex is called'; an empty family leaves no record to fall on
abbrev pub fate_by : Ending → ℕ
fate_by (Called length) = used_number
fate_by Empty = undecided_number
fate_by NoStrand = no_strand_number
fate_by (Rejected reason) = number_of reason
fate_by (Disagreeing limit) = number_of HighDuplexDisagreement
fate_by (Refused refusal) = undecided_number

-- the fate of each record: it 'falls on every record that has none yet'
unfoldable pub fates : Call → List ℕ
fates c = settled (fate_by (ending c)) (selection c).fates

-- 'each record has exactly one fate': one of the numbers 1 to 13 for each
pub record Fated (c : Call) : Type 0 where
  pub one_each : length (fates c) ≡ length c.records
  pub decided : (i : ℕ) → i < length c.records → (1 ≤ get_or (fates c) i 0) × (get_or (fates c) i 0 ≤ 13)
