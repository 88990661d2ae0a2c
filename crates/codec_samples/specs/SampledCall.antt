-- Document 02, Req 01: a family call names its sample; its refusals, and what it counts.
use Rattle.std.specs.Prelude.{cond, ℕ, ltb, set, Result, Ok, Err, is_err}
use Rattle.std.specs.Result.{result_and}
use Rattle.caller.specs.declared.refusal.LedgerRefusal.TheVariants.{TooLarge, Full}
use Rattle.caller.specs.declared.refusal.Refusal.{Refusal}
use Rattle.caller.specs.declared.refusal.Refusal.TheVariants.{Ledger, NoSuchSample}
use Rattle.codec_stats.specs.Ledger.{Counts, too_large, full, plus}
use Rattle.codec_family.specs.Call.{Call}
use Rattle.codec_family.specs.Counted.{counted}
use Rattle.codec_family.specs.Refusals.{of_call}
use Rattle.codec_samples.specs.Books.{Books, sample_of}

-- every argument of a family call but the ledgers, with the number of its sample
pub record SampledCall : Type 0 where
  pub call : Call
  pub sample : ℕ

abbrev pub sampled_call_of : Call → ℕ → SampledCall
sampled_call_of c sample = record { call = c; sample = sample }

-- the counts of the sample that the call names
abbrev pub own_counts : SampledCall → Books → Counts
own_counts c books = sample_of c.sample books.samples

-- '01's refusals 10 and 11 look at the run's ledger and then at the sample's'; lowest number first
unfoldable pub of_books : (run own : Counts) → Result Unit Refusal
of_books run own =
    cond (too_large run) (Err (Ledger TooLarge))
    (cond (too_large own) (Err (Ledger TooLarge))
    (cond (full run) (Err (Ledger Full))
    (cond (full own) (Err (Ledger Full)) (Ok tt))))

-- '20 sample number above 95, tested before all others'; then 1 to 9 as they are, then 10 and 11
unfoldable pub sampled_refusal : SampledCall → Books → Result Unit Refusal
sampled_refusal c books =
    cond (ltb 95 c.sample) (Err NoSuchSample)
    (result_and (of_call c.call) (of_books books.run (own_counts c books)))

-- 'counts each call for the run and for its own sample': the same counts to both, and the other 95 stay
unfoldable pub counted_in : SampledCall → Books → Books
counted_in c books =
    record {
      run = plus books.run (counted c.call);
      samples = set books.samples c.sample (plus (own_counts c books) (counted c.call));
    }

-- 'A call that must be refused, 10 and 11 read on the history's counts', of both, 'changes none'
unfoldable pub after_sampled : SampledCall → Books → Books
after_sampled c books = cond (is_err (sampled_refusal c books)) books (counted_in c books)
