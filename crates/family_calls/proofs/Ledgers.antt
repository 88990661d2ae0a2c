-- What the call that a family is answers and hands on.
use mathlib.Core.Path.{◌≡◌}
use mathlib.Core.List.{List}
use Prim.Native.Nat.{ℕ}
use Rattle.codec_family.specs.Answer.{reported_answer}
use Rattle.codec_family.specs.Call.{Lent}
use Rattle.codec_family.specs.declared.answer.Answer.{Answer}
use Rattle.codec_family.specs.declared.answer.FamilyAnswer.{FamilyAnswer}
use Rattle.codec_family.specs.declared.room.Room.{Room}
use Rattle.codec_samples.specs.Books.{Books}
use Rattle.codec_samples.specs.SampledCall.{sampled_call_of}
use Rattle.codec_samples.specs.SampledFamily.{SampledFamilyCalled}
use Rattle.family_text.specs.Family.{Family}
use Rattle.sample_ledgers.specs.Samples.{samples_of}
use Rattle.family_calls.specs.Ledgers.{records_of, call_for, Kept}
use Rattle.family_calls.specs.Room.{room_for}
use Rattle.family_calls.specs.Written.{Answers}

-- the ledgers after the call that a family is
pub kept_for : (f : Family) (sample : ℕ) (books : Books) (room : Room) (before after : Lent) (answer : FamilyAnswer) (samples : List ℕ) → room ≡ room_for f.header
    → SampledFamilyCalled (sampled_call_of (record { records = records_of f.records f.header.records; ops = f.words; options = f.header.options; r1 = f.r1; r2 = f.r2; room = room }) sample) books before answer (samples_of samples) after
    → Kept (sampled_call_of (call_for f) sample) books answer.ledger samples
kept_for f sample books room before after answer samples e called = record { run = rw e at called.run_after; samples = rw e at called.samples-after }

-- the answer to the call that a family is
pub answers_for : (f : Family) (sample : ℕ) (books : Books) (room : Room) (before after : Lent) (answer : Answer) (samples : List ℕ) → room ≡ room_for f.header
    → SampledFamilyCalled (sampled_call_of (record { records = records_of f.records f.header.records; ops = f.words; options = f.header.options; r1 = f.r1; r2 = f.r2; room = room }) sample) books before (reported_answer answer) (samples_of samples) after
    → Answers (sampled_call_of (call_for f) sample) books answer
answers_for f sample books room before after answer samples e called = record { ended = rw e at called.results.ended; listed = rw e at called.results.list_length; ledger = rw e at called.run_after }
