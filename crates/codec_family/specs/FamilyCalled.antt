-- Document 01, 'A family' and 'The answers': all that a family call promises.
use Rattle.std.specs.Prelude.{cond, List, [], ◌≡◌, ℕ, length, Result, Ok, Err, is_err}
use Rattle.lists.specs.Written.{written}
use Rattle.caller.specs.declared.refusal.Refusal.{Refusal}
use Rattle.codec_rejects.specs.Handover.{mark_words, handover, listed_records, listed_reasons}
use Rattle.codec_stats.specs.declared.ledger.Ledger.{Ledger}
use Rattle.codec_family.specs.Answer.{reported}
use Rattle.codec_family.specs.Call.{Call, Lent}
use Rattle.codec_family.specs.Counted.{after_call}
use Rattle.codec_family.specs.Ending.{is_called, ending, duplex_of, strand_r1, strand_r2}
use Rattle.codec_family.specs.Fates.{fates}
use Rattle.codec_family.specs.Refusals.{refusal}
use Rattle.codec_family.specs.declared.answer.Answer.{Answer}
use Rattle.codec_family.specs.declared.answer.FamilyAnswer.{FamilyAnswer}
use Rattle.codec_family.specs.declared.ending.Ending.{Ending}
use Rattle.codec_family.specs.declared.ending.Ending.TheVariants as endings

-- a refusal comes before all steps
abbrev pub unless_refused : Result Unit Refusal → Ending → Ending
unless_refused (Ok done) e = e
unless_refused (Err refusal) e = endings.Refused refusal

-- how the call ends, its refusal given
unfoldable pub ending_with : Call → Result Unit Refusal → Ending
ending_with c r = unless_refused r (ending c)

-- the fates of a call's records, none where it is refused
unfoldable pub fates_with : Call → Result Unit Refusal → List ℕ
fates_with c r = cond (is_err r) [] (fates c)

-- the answer of a refusal: no list, and the ledger that was handed over
abbrev pub refused_answer : Ledger → Refusal → Answer
refused_answer ledger refusal = record { ending = endings.Refused refusal; listed = 0; ledger = ledger }

-- 'Marks are … written whole'; 'A refusal leaves everything as it was'
unfoldable pub marks_after : Call → Result Unit Refusal → List ℕ → List ℕ
marks_after c r old = cond (is_err r) old (written (mark_words (fates c)) old)

-- 'Duplex and both strands fill the first positions of four columns each; … a family not called touches none of these twelve'
unfoldable pub column_after : Call → Result Unit Refusal → (result old : List ℕ) → List ℕ
column_after c r result old = cond (is_called (ending_with c r)) (written result old) old

-- all but the ledger, the call's refusal given: the ending, the marks, the list's length and its two columns, and the twelve columns
pub record Results (c : Call) (r : Result Unit Refusal) (before : Lent) (answer : FamilyAnswer) (after : Lent) : Type 0 where
  pub ended : answer.ending ≡ reported (ending_with c r)
  pub marks : after.marks ≡ marks_after c r before.marks
  -- 'It fills the first places of two columns, record and reason'; 'what lies beyond, in list and marks too, is untouched'
  pub list_length : answer.listed ≡ length (handover (fates_with c r))
  pub list_records : after.listed_records ≡ written (listed_records (fates_with c r)) before.listed_records
  pub list_reasons : after.listed_reasons ≡ written (listed_reasons (fates_with c r)) before.listed_reasons
  pub duplex_bases : after.duplex.bases ≡ column_after c r (duplex_of c).bases before.duplex.bases
  pub duplex_quals : after.duplex.quals ≡ column_after c r (duplex_of c).quals before.duplex.quals
  pub duplex-depths : after.duplex.depths ≡ column_after c r (duplex_of c).depths before.duplex.depths
  pub duplex_errors : after.duplex.errors ≡ column_after c r (duplex_of c).errors before.duplex.errors
  pub r1_bases : after.r1.bases ≡ column_after c r (strand_r1 c).bases before.r1.bases
  pub r1_quals : after.r1.quals ≡ column_after c r (strand_r1 c).quals before.r1.quals
  pub r1_depths : after.r1.depths ≡ column_after c r (strand_r1 c).depths before.r1.depths
  pub r1_errors : after.r1.errors ≡ column_after c r (strand_r1 c).errors before.r1.errors
  pub r2_bases : after.r2.bases ≡ column_after c r (strand_r2 c).bases before.r2.bases
  pub r2_quals : after.r2.quals ≡ column_after c r (strand_r2 c).quals before.r2.quals
  pub r2_depths : after.r2.depths ≡ column_after c r (strand_r2 c).depths before.r2.depths
  pub r2_errors : after.r2.errors ≡ column_after c r (strand_r2 c).errors before.r2.errors

-- the results, refusals 1 to 11 read on the ledger that was handed over, and the ledger
pub record FamilyCalled (c : Call) (ledger : Ledger) (before : Lent) (answer : FamilyAnswer) (after : Lent) : Type 0 where
  pub results : Results c (refusal c ledger) before answer after
  pub ledger_after : answer.ledger ≡ after_call c ledger
