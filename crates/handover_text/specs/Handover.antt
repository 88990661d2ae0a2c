-- The list that is handed over: the families that gave no duplex, and their rejected records.
use Rattle.std.specs.Prelude.{cond, List, [], ◌∷◌, ◌++◌, ℕ, ◌≤◌, length, get_or}
use Rattle.caller.specs.Reasons.{name_of}
use Rattle.caller.specs.Refusals.{number_of, given_of}
use Rattle.caller.specs.declared.reason.RejectionReason.TheVariants.{FragmentRead, NotPrimaryFrPair, InsufficientReads, MinorityAlignment, Downsampled, InsufficientOverlap, IndelErrorBetweenStrands, Dovetail, ClipOverlapFailed, HighDuplexDisagreement}
use Rattle.codec_family.specs.Ending.{is_called}
use Rattle.codec_family.specs.declared.answer.Answer.{Answer}
use Rattle.codec_family.specs.declared.ending.Ending.{Ending}
use Rattle.codec_family.specs.declared.ending.Ending.TheVariants.{Called, Empty, NoStrand, Rejected, Disagreeing, Refused}
use Rattle.table_text.specs.Text.{bytes_of}
use Rattle.table_text.specs.Texts.{texts}
use Rattle.answer_text.specs.Line.{fields_text, line_with}

-- document 01: 'Reasons 1 to 10', the first place for the number 0, which is none
abbrev pub reason_names : List (List ℕ)
reason_names =
    [] ∷
    name_of FragmentRead ∷
    name_of NotPrimaryFrPair ∷
    name_of InsufficientReads ∷
    name_of MinorityAlignment ∷
    name_of Downsampled ∷
    name_of InsufficientOverlap ∷
    name_of IndelErrorBetweenStrands ∷
    name_of Dovetail ∷
    name_of ClipOverlapFailed ∷
    name_of HighDuplexDisagreement ∷
    []

-- the name of the reason with a number; nothing where no reason has it
unfoldable pub reason_name : ℕ → List ℕ
reason_name number = get_or reason_names number []

-- how a family without a duplex ended
unfoldable pub outcome_text : Ending → List ℕ
outcome_text (Called length) = []
outcome_text Empty = bytes_of " empty"
outcome_text NoStrand = bytes_of " no strand"
outcome_text (Rejected reason) = bytes_of " rejected " ++ name_of reason
outcome_text (Disagreeing limit) = bytes_of " rejected " ++ name_of HighDuplexDisagreement
outcome_text (Refused refusal) = bytes_of " refused" ++ fields_text (number_of refusal ∷ given_of refusal ∷ [])

-- `family FAMILY empty | no strand | rejected NAME | refused NUMBER WITH`
unfoldable pub ended_text : (family : ℕ) → Ending → List ℕ
ended_text family e = line_with (bytes_of "family") (fields_text (family ∷ []) ++ outcome_text e)

-- `record FAMILY RECORD NAME`
unfoldable pub rejected_text : (family record' reason : ℕ) → List ℕ
rejected_text family record' reason = line_with (bytes_of "record") (fields_text (family ∷ record' ∷ []) ++ (bytes_of " " ++ reason_name reason))

-- the n first places of the handover list, one a line
unfoldable pub rejections_text : (family n : ℕ) → (records reasons : List ℕ) → List ℕ
rejections_text family n records reasons = texts (λ i. rejected_text family (get_or records i 0) (get_or reasons i 0)) n

-- what is handed over of a family: nothing where it was called
unfoldable pub handover_text : (family : ℕ) → Answer → (records reasons : List ℕ) → List ℕ
handover_text family answer records reasons =
    cond (is_called answer.ending) [] (ended_text family answer.ending ++ rejections_text family answer.listed records reasons)

-- the list columns are as long as the answer says, and no longer than a call can fill
pub record Listing (answer : Answer) (records reasons : List ℕ) : Type 0 where
  pub few : answer.listed ≤ 512
  pub enough_records : answer.listed ≤ length records
  pub enough_reasons : answer.listed ≤ length reasons
