-- The text form: 'a list of family calls that share one ledger, in order'; and the ledgers of the samples that they name.
use Rattle.std.specs.Prelude.{cond, List, ◌≡◌, ℕ, ltb, replicate, unwrap_or}
use Rattle.codec_family.specs.Call.{Call}
use Rattle.codec_records.specs.Records.{blank}
use Rattle.codec_records.specs.declared.records.Record.{Record}
use Rattle.codec_samples.specs.Books.{Books, books_of}
use Rattle.codec_samples.specs.SampledCall.{SampledCall, sampled_call_of, after_sampled}
use Rattle.codec_stats.specs.Ledger.{Counts}
use Rattle.ledger_lines.specs.declared.settings.Handed.{Handed}
use Rattle.family_text.specs.Family.{Family}
use Rattle.family_windows.specs.Going as going
use Rattle.sample_ledgers.specs.Samples.{samples_of}
use Rattle.table_text.specs.Parts.{Parts}
use Rattle.family_calls.specs.Room.{room_for}

-- a family's records; more than 512 are refused whatever they are, and blank ones stand for them
abbrev pub records_of : List Record → ℕ → List Record
records_of records len = cond (ltb 512 len) (replicate len blank) records

-- the call that a family of the text is
abbrev pub call_for : Family → Call
call_for f =
    record {
      records = records_of f.records f.header.records;
      ops = f.words;
      options = f.header.options;
      r1 = f.r1;
      r2 = f.r2;
      room = room_for f.header;
    }

-- the run's ledger and the samples' as a call leaves them
pub record Kept (c : SampledCall) (books : Books) (run' : Counts) (samples' : List ℕ) : Type 0 where
  pub run : run' ≡ (after_sampled c books).run
  pub samples : samples_of samples' ≡ (after_sampled c books).samples

-- what a family hands on: the ledgers as its call, of the sample that it was handed, leaves them; and that sample, 0 until one is named
pub record HandedOn (f : Family) (handed after : Handed) : Type 0 where
  pub kept : Kept (sampled_call_of (call_for f) (unwrap_or handed.sample 0)) (books_of handed.ledger handed.samples) after.ledger after.samples
  pub sample : after.sample ≡ handed.sample

-- from what is handed and the lines of a text to what is handed later and the lines left
abbrev pub Goes : Handed → Parts → Handed → Parts → Type 0
Goes = going.Goes HandedOn
