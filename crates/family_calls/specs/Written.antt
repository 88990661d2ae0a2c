-- What a program writes of a family: a text of the answer to its call, and of columns that are lent. What the call left in them is not said.
use Rattle.std.specs.Prelude.{List, ◌≡◌, ℕ, length, unwrap_or}
use Rattle.codec_family.specs.Answer.{reported}
use Rattle.codec_family.specs.Call.{Lent}
use Rattle.codec_family.specs.FamilyCalled.{ending_with, fates_with}
use Rattle.codec_family.specs.declared.answer.Answer.{Answer}
use Rattle.codec_rejects.specs.Handover.{handover}
use Rattle.codec_samples.specs.Books.{Books, books_of}
use Rattle.codec_samples.specs.SampledCall.{SampledCall, sampled_call_of, sampled_refusal, after_sampled}
use Rattle.family_text.specs.Family.{Family}
use Rattle.ledger_lines.specs.declared.settings.Handed.{Handed}
use Rattle.family_calls.specs.Ledgers.{call_for}
use Rattle.family_calls.specs.Room.{Roomy}

-- how a call ends, how many records it lists, and the run's ledger after it
pub record Answers (c : SampledCall) (books : Books) (answer : Answer) : Type 0 where
  pub ended : reported answer.ending ≡ reported (ending_with c.call (sampled_refusal c books))
  pub listed : answer.listed ≡ length (handover (fates_with c.call (sampled_refusal c books)))
  pub ledger : answer.ledger ≡ (after_sampled c books).run

-- an answer to the call that a family is, of the sample that it was handed, 0 until one is named
abbrev pub AnswersFamily : Family → Handed → Answer → Type 0
AnswersFamily f handed = Answers (sampled_call_of (call_for f) (unwrap_or handed.sample 0)) (books_of handed.ledger handed.samples)

-- the text is that of the answer to the family's call, and of some columns with room for it
pub record WritesAnswer (text_of : Answer → Lent → List ℕ) (f : Family) (handed : Handed) (text : List ℕ) : Type 0 where
  pub answer : Answer
  pub left : Lent
  pub answered : AnswersFamily f handed answer
  pub roomy : Roomy left
  pub is_text : text ≡ text_of answer left
