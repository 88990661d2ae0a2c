-- Document 01, 'Demand 3, the conservation rule': what holds after every list of family calls.
use Rattle.std.specs.Prelude.{cond, List, ◌≡◌, ℕ, ◌+◌, ◌/◌, ◌%◌, ◌^◌, ◌≤◌, ◌<◌, length, get_or, take}
use Rattle.std.specs.Int.Count.{ones}
use Rattle.lists.specs.Count.{count_below}
use Rattle.lists.specs.Total.{total}
use Rattle.caller.specs.Fates.{is_marked}
use Rattle.codec_duplex.specs.Tally.{both_call, disagree}
use Rattle.codec_framing.specs.Framing.{padded_r1, padded_r2}
use Rattle.codec_rejects.specs.Fates.{with_fate, marked_rejections}
use Rattle.codec_stats.specs.Ledger.{Counts, figures, counter, filtered}
use Rattle.codec_family.specs.Call.{Call, columns_of}
use Rattle.codec_family.specs.Ending.{frame}
use Rattle.codec_family.specs.Fates.{fates, Fated}
use Rattle.codec_conservation.specs.Chain.{Made, last_ledger, calls_of, unrefused, duplexes, disagreeing, Each}
use Rattle.codec_conservation.specs.History.{history}

-- 'the marks that such a call leaves are exactly its rejections other than downsampling': bit i is record i's, and as many are set
pub record Marked (c : Call) (marks : List ℕ) : Type 0 where
  pub exactly : (i : ℕ) → i < 512 → get_or marks (i / 64) 0 / 2 ^ (i % 64) % 2 ≡ cond (is_marked (get_or (fates c) i 0)) 1 0
  pub as_many : total ones (take 8 marks) ≡ marked_rejections (fates c)

-- both strands' bases as step 9 combines them
abbrev pub first_bases : Made → List ℕ
first_bases m = (padded_r1 (frame m.call) (columns_of m.call.r1)).bases

abbrev pub second_bases : Made → List ℕ
second_bases m = (padded_r2 (frame m.call) (columns_of m.call.r2)).bases

-- what a ledger's counts say of the calls not refused that it counts: the run's of all of them
pub record Claims (counts : Counts) (taken : List Made) : Type 0 where
  -- 'Over the calls not refused, each record has exactly one fate by document 01's steps'
  pub fated : Each (λ m. Fated m.call) taken
  -- 'Each record counter is the number of records with its fate'
  pub counters : (fate : ℕ) → 1 ≤ fate → fate ≤ 13 → counter fate counts ≡ total (λ m. with_fate fate (fates m.call)) taken
  -- 'together they make the records handed in'
  pub together : filtered counts + counts.passed_over + counts.no_strand + counts.used ≡ counts.records
  pub records : counts.records ≡ total (λ m. length m.call.records) taken
  -- 'Families are the calls not refused, the empty ones too'
  pub families : counts.families ≡ length taken
  -- 'duplexes are those answered called, bases the sum of their lengths'
  pub called : counts.duplexes ≡ length (duplexes taken)
  pub bases : counts.bases ≡ total (λ m. m.answer.ending.length) (duplexes taken)
  -- 'disagreement-rejected families the calls ended by HighDuplexDisagreement'
  pub disagreement_rejected : counts.disagreement_rejected ≡ length (disagreeing taken)
  -- 'Duplex bases are the positions called on both strands in these duplexes, disagreements exactly those of them where the two bases differ'
  pub duplex_bases : counts.duplex_bases ≡ total (λ m. count_below (both_call (first_bases m) (second_bases m)) m.answer.ending.length) (duplexes taken)
  pub disagreements : counts.disagreements ≡ total (λ m. count_below (disagree (first_bases m) (second_bases m)) m.answer.ending.length) (duplexes taken)

pub record Conserved (made : List Made) : Type 0 where
  -- 'After it every figure of the ledger equals that of its history': 20 counts, filtered, both rates
  pub history-figures : figures (last_ledger made) ≡ figures (history (calls_of made))
  -- 'and the marks that such a call leaves are exactly its rejections other than downsampling'
  pub marks : Each (λ m. Marked m.call m.after.marks) (unrefused made)
  -- fates, counters and the other counts, over the calls not refused
  pub claims : Claims (last_ledger made) (unrefused made)
