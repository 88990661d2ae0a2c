-- Document 02, Req 01: all that a family call promises that names its sample.
use Rattle.std.specs.Prelude.{List, ◌≡◌}
use Rattle.codec_stats.specs.Ledger.{Counts}
use Rattle.codec_family.specs.Call.{Lent}
use Rattle.codec_family.specs.FamilyCalled.{Results}
use Rattle.codec_family.specs.declared.answer.FamilyAnswer.{FamilyAnswer}
use Rattle.codec_samples.specs.Books.{Books}
use Rattle.codec_samples.specs.SampledCall.{SampledCall, sampled_refusal, after_sampled}

-- answer, marks, list and columns by 01's definitions, 'refusals … 20 … before all others'; the run's ledger; all samples' ledgers
pub record SampledFamilyCalled (c : SampledCall) (books : Books) (before : Lent) (answer : FamilyAnswer) (samples' : List Counts) (after : Lent) : Type 0 where
  pub results : Results c.call (sampled_refusal c books) before answer after
  pub run_after : answer.ledger ≡ (after_sampled c books).run
  pub samples-after : samples' ≡ (after_sampled c books).samples
