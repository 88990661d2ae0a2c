-- The text of each sample behind those of the samples before it.
use Rattle.std.proofs.Common.{ℕ, arith}
use Rattle.sample_ledgers.specs.Samples.{ledger_at}
use Rattle.table_text.proofs.Appending.{appending_none, appending_more, appending_all}
use Rattle.sheet_text.specs.SheetText.{sample_text, samples_text}
use Rattle.sheet_text.proofs.Accepted.{sample_within}
use Rattle.sheet_text.proofs.sheet.write_samples.Goals as goal

pub loop-sample-init : goal.loop-sample-init
loop-sample-init c = appending_none (λ (s : ℕ). sample_text s (ledger_at c.args.samples.now s)) 118 c.args.page.now

pub write_sample-requires : goal.write_sample-requires
write_sample-requires c =
    record {
      sample_in_bounds = c.loop-sample-test.true;
      within_limits = rw c.read_sample.ensures (sample_within c.args.samples.now c.loop-sample.sample c.requires.within_limits c.loop-sample-test.true);
      room = omega (arith, c.loop-sample.invariant.within, c.loop-sample.invariant.appended.size);
    }

pub loop-sample-preserved : goal.loop-sample-preserved
loop-sample-preserved c =
    let text = λ (s : ℕ). sample_text s (ledger_at c.args.samples.now s) in
    appending_more text 118 c.args.page.now c.loop-sample.invariant (rw c.read_sample.ensures at c.write_sample.ensures.appended) c.write_sample.ensures.upper_bound

pub returns : goal.returns
unfolding samples_text
returns c =
    let text = λ (s : ℕ). sample_text s (ledger_at c.args.samples.now s) in
    appending_all text 118 c.loop-sample.invariant c.loop-sample.auto.sample-end c.loop-sample-test.false
