-- Document 02, Req 01: 'The conservation rule speaks of every sample from then on'.
use Rattle.std.specs.Prelude.{List, ◌≡◌, ℕ, ◌<◌, length}
use Rattle.codec_stats.specs.Ledger.{figures}
use Rattle.sample_ledgers.specs.Samples.{sample_total}
use Rattle.codec_conservation.specs.Chain.{unrefused, Each}
use Rattle.codec_conservation.specs.Conserved.{Marked, Claims}
use Rattle.codec_samples.specs.Books.{sample_of}
use Rattle.sample_conservation.specs.SampledChain.{SampledMade, last_books, sampled_calls_of, families_of, naming}
use Rattle.sample_conservation.specs.SampledHistory.{sampled_history}
use Rattle.sample_conservation.specs.Sums.{summed, Sums}

pub record SampledConserved (made : List SampledMade) : Type 0 where
  -- 'a ledger for each sample number 0 to 95'
  pub one_each : length (last_books made).samples ≡ sample_total
  -- 'one history of the whole list keeps the figures of both': 20 counts, filtered, both rates
  pub run_figures : figures (last_books made).run ≡ figures (sampled_history (sampled_calls_of made)).run
  pub sample_figures : (s : ℕ) → s < sample_total → figures (sample_of s (last_books made).samples) ≡ figures (sample_of s (sampled_history (sampled_calls_of made)).samples)
  -- 'the marks that such a call leaves are exactly its rejections other than downsampling'
  pub marks : Each (λ m. Marked m.call m.after.marks) (unrefused (families_of made))
  -- fates, counters and the other counts: the run's over the calls not refused, each sample's over those of them that name it
  pub run_claims : Claims (last_books made).run (unrefused (families_of made))
  pub sample_claims : (s : ℕ) → s < sample_total → Claims (sample_of s (last_books made).samples) (unrefused (families_of (naming s made)))
  -- 'By it each run figure but the two rates is the sum of the samples' figures'
  pub all_added_up : (last_books made).run ≡ summed (last_books made).samples
  pub sums : Sums (last_books made).run (last_books made).samples
