-- Document 01, 'Selection alone': what the calls on columns give and answer.
use Rattle.std.specs.Prelude.{List, ◌≡◌, ℕ, ◌≤◌, length}
use Rattle.codec_records.specs.Marks.{marks, side_flags}
use Rattle.codec_records.specs.declared.options.Options.{Options}
use Rattle.codec_records.specs.declared.records.Record.{Record}
use Rattle.codec_select.specs.Selection.{course_of}
use Rattle.codec_select.specs.declared.selection.Selection.{Selection}
use Rattle.codec_records.specs.declared.side.Sides.{Sides}
use Rattle.codec_select.specs.declared.selection.Decision.{Decision}

-- what a call that lends its fates and sides gives of a family of some number of records; too many have no room for their fates
pub record SelectsInto (o : Options) (count : ℕ) (records : List Record) (ops : List ℕ) (decision : Decision) (fates : List ℕ) (sides : Sides) : Type 0 where
  pub decision_is : decision ≡ (course_of o count records ops).decision
  pub fates_are : count ≤ 512 → fates ≡ (course_of o count records ops).fates
  pub r1_is : sides.r1 ≡ (course_of o count records ops).r1
  pub r2_is : sides.r2 ≡ (course_of o count records ops).r2

-- each part of the answer
pub record Selects (o : Options) (count : ℕ) (records : List Record) (ops : List ℕ) (answer : Selection) : Type 0 where
  pub decision : answer.decision ≡ (course_of o count records ops).decision
  pub r1 : answer.r1 ≡ marks (side_flags (course_of o count records ops).r1 (length records))
  pub r2 : answer.r2 ≡ marks (side_flags (course_of o count records ops).r2 (length records))
