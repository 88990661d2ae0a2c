-- All samples that were passed are within the limits, so those left decide.
use mathlib.Core.Bool.{not, Bool}
use mathlib.Core.List.{List}
use mathlib.Core.Path.{◌≡◌, sym, ◌∙◌, ap}
use Prim.Native.Nat.{ℕ, ◌<◌}
use native.Mathlib.Omega.{arith}
use lib.ListN.{get_or}
use Rattle.lists.proofs.Every.{list_all_fails, list_all-next, list_all-passed}
use Rattle.codec_stats.specs.Ledger.{fresh, too_large}
use Rattle.sample_ledgers.specs.Samples.{ledger_at, samples_of}
use Rattle.sample_ledgers.proofs.Flat.{sample_read_lem, length-samples}
use Rattle.sheet_text.specs.Sheet.{within_limits, some_too_large}
use Rattle.sheet_text.proofs.refusal.is_some_too_large.Goals as goal

-- what is found of the sample at a place
found : (samples : List ℕ) (sample : ℕ) (large : Bool) → sample < 96 → large ≡ too_large (ledger_at samples sample) → within_limits (get_or (samples_of samples) sample fresh) ≡ not large
found samples sample large below e = ap within_limits (sample_read_lem samples sample below) ∙ ap not (sym e)

pub returns-then-is_sample_too_large : goal.returns-then-is_sample_too_large
unfolding some_too_large
returns-then-is_sample_too_large c =
    let samples = c.args.samples.now in
    let sample = c.loop-sample.sample in
    sym (ap not (list_all_fails within_limits (samples_of samples) sample fresh c.loop-sample.invariant (omega (arith, length-samples samples)) (found samples sample _ c.loop-sample-test.true c.is_sample_too_large.ensures ∙ ap not c.if-is_sample_too_large.true)))

pub loop-sample-preserved : goal.loop-sample-preserved
loop-sample-preserved c =
    let samples = c.args.samples.now in
    let sample = c.loop-sample.sample in
    list_all-next within_limits (samples_of samples) sample fresh c.loop-sample.invariant (omega (arith, length-samples samples)) (found samples sample _ c.loop-sample-test.true c.is_sample_too_large.ensures ∙ ap not c.if-is_sample_too_large.false)

pub returns : goal.returns
unfolding some_too_large
returns c =
    let samples = c.args.samples.now in
    sym (ap not (list_all-passed within_limits (samples_of samples) c.loop-sample.sample fresh c.loop-sample.invariant (omega (arith, length-samples samples))))
