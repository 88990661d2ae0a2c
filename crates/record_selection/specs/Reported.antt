-- Document 01, 'Selection alone': its answer as numbers.
use Rattle.std.specs.Prelude.{false, List, ◌≡◌, ℕ, length}
use Rattle.caller.specs.Reasons.{number_of}
use Rattle.caller.specs.Refusals as refusals
use Rattle.codec_records.specs.Marks.{marks, side_flags}
use Rattle.codec_select.specs.Selection.{course_of}
use Rattle.codec_records.specs.declared.options.Options.{Options}
use Rattle.codec_records.specs.declared.records.Record.{Record}
use Rattle.codec_select.specs.declared.selection.Decision.{Decision}
use Rattle.codec_select.specs.declared.selection.Decision.TheVariants.{Kept, Empty, Rejected, Refused}
use Rattle.record_selection.specs.declared.report.SelectAnswer.{SelectAnswer}
use Rattle.record_selection.specs.declared.report.SelectDecision.{SelectDecision}

-- what is not kept has no window, no length and no orientation
abbrev pub without_window : ℕ → ℕ → ℕ → SelectDecision
without_window kind number given =
    record { kind = kind; number = number; with = given; start = 0; end = 0; length = 0; r1_is_negative = false; r2_is_negative = false }

-- kind 0: kept, with the window, the length and the orientation; 1: empty; 2: the ending reason's number; 3: a refusal's number and what goes with it
abbrev pub reported_selection : Decision → SelectDecision
reported_selection (Kept start end length r1_negative r2_negative) =
    record { kind = 0; number = 0; with = 0; start = start; end = end; length = length; r1_is_negative = r1_negative; r2_is_negative = r2_negative }
reported_selection Empty = without_window 1 0 0
reported_selection (Rejected reason) = without_window 2 (number_of reason) 0
reported_selection (Refused refusal) = without_window 3 (refusals.number_of refusal) (refusals.given_of refusal)

-- 'kept records of each side as mark words, window, length and orientation; or only empty; or only the ending reason'
pub record SelectingRecords (o : Options) (count : ℕ) (records : List Record) (ops : List ℕ) (answer : SelectAnswer) : Type 0 where
  pub decision : answer.decision ≡ reported_selection (course_of o count records ops).decision
  pub r1 : answer.r1 ≡ marks (side_flags (course_of o count records ops).r1 (length records))
  pub r2 : answer.r2 ≡ marks (side_flags (course_of o count records ops).r2 (length records))
