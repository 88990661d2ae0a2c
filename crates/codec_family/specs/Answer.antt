-- The paper's cases of a family's ending as numbers.
use Rattle.std.specs.Prelude.{Bool, ◌&&◌, ℕ, eqb}
use Rattle.caller.specs.Reasons.{number_of}
use Rattle.caller.specs.Refusals as refusals
use Rattle.caller.specs.declared.reason.RejectionReason.TheVariants.{HighDuplexDisagreement}
use Rattle.codec_family.specs.declared.answer.Answer.{Answer}
use Rattle.codec_family.specs.declared.answer.FamilyAnswer.{FamilyAnswer}
use Rattle.codec_family.specs.declared.answer.FamilyEnding.{FamilyEnding}
use Rattle.codec_family.specs.declared.ending.Ending.{Ending}
use Rattle.codec_family.specs.declared.ending.Ending.TheVariants.{Called, Empty, NoStrand, Rejected, Disagreeing, Refused}

abbrev pub called_number : ℕ
called_number = 0

abbrev pub empty_number : ℕ
empty_number = 1

abbrev pub no_strand_number : ℕ
no_strand_number = 2

abbrev pub rejected_number : ℕ
rejected_number = 3

abbrev pub refused_number : ℕ
refused_number = 4

-- called with the duplex's length; empty; no strand; the ending reason's number; a refusal's number and what goes with it
abbrev pub reported : Ending → FamilyEnding
reported (Called length) = record { kind = called_number; number = 0; with = 0; length = length }
reported Empty = record { kind = empty_number; number = 0; with = 0; length = 0 }
reported NoStrand = record { kind = no_strand_number; number = 0; with = 0; length = 0 }
reported (Rejected reason) = record { kind = rejected_number; number = number_of reason; with = 0; length = 0 }
reported (Disagreeing limit) = record { kind = rejected_number; number = number_of HighDuplexDisagreement; with = 0; length = 0 }
reported (Refused refusal) = record { kind = refused_number; number = refusals.number_of refusal; with = refusals.given_of refusal; length = 0 }

abbrev pub reported_answer : Answer → FamilyAnswer
reported_answer a = record { ending = reported a.ending; listed = a.listed; ledger = a.ledger }

-- what an answer says
abbrev pub says_refused : FamilyEnding → Bool
says_refused e = eqb e.kind refused_number

abbrev pub says_called : FamilyEnding → Bool
says_called e = eqb e.kind called_number

-- ended by HighDuplexDisagreement
abbrev pub says_disagreeing : FamilyEnding → Bool
says_disagreeing e = eqb e.kind rejected_number && eqb e.number (number_of HighDuplexDisagreement)
