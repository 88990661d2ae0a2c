-- Document 01, 'A family' and 'The answers': what stands between selection and the answer. Only inner contracts need it.
use Rattle.std.specs.Prelude.{List, ◌≡◌, ℕ, ◌≤◌, length, take}
use Rattle.lists.specs.Written.{written}
use Rattle.codec_rejects.specs.Fates.{rejections}
use Rattle.codec_rejects.specs.Handover.{mark_words, listed_records, listed_reasons}
use Rattle.codec_select.specs.Selection.{course_of}
use Rattle.codec_records.specs.Records.{room_of}
use Rattle.codec_records.specs.declared.options.Options.{Options}
use Rattle.codec_records.specs.declared.records.Record.{Record}
use Rattle.codec_select.specs.declared.selection.Decision.{Decision}
use Rattle.codec_family.specs.Counted.{counted_by}
use Rattle.codec_family.specs.declared.ending.Verdict.{Verdict}
use Rattle.codec_caller.specs.declared.choosing.Chosen.{Chosen}
use Rattle.codec_caller.specs.declared.family.Settlement.{Settlement}

-- steps 1 to 7 of a family of some number of records; too many have no room for their fates
pub record Selected (o : Options) (count : ℕ) (records : List Record) (ops : List ℕ) (decision : Decision) (fates : List ℕ) : Type 0 where
  pub decided : decision ≡ (course_of o count records ops).decision
  pub fates_are : count ≤ 512 → fates ≡ (course_of o count records ops).fates

-- what was chosen is so for some family of as many records
pub record Chose (o : Options) (chosen : Chosen) : Type 0 where
  pub records : List Record
  pub ops : List ℕ
  pub size : length records ≡ chosen.given
  pub selected : Selected o chosen.given records ops chosen.decision (take (room_of chosen.given) chosen.fates)

-- all that is read off the last fates: the list by rising record number, its length, the marks, and what is counted
pub record Settles (fates : List ℕ) (verdict : Verdict) (settlement : Settlement) (listed₀ reasons₀ marks₀ listed reasons marks : List ℕ) : Type 0 where
  pub list_length : settlement.listed ≡ rejections fates
  pub counted : settlement.counted ≡ counted_by (length fates) fates verdict.ending verdict.tally
  pub records_written : listed ≡ written (listed_records fates) listed₀
  pub reasons_written : reasons ≡ written (listed_reasons fates) reasons₀
  pub marks-written : marks ≡ written (mark_words fates) marks₀
