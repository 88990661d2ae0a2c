use mathlib.Core.Path.{◌≡◌}
use lib.ListN.{drop}
use Rattle.std.specs.List.{list_all}
use Rattle.sample_ledgers.specs.Samples.{samples_of}
use Rattle.sheet_text.specs.Sheet.{within_limits}
use Rattle.sheet_text.proofs.refusal.is_some_too_large.Given as goal

abbrev pub invariant-loop-sample : goal.invariant-loop-sample
invariant-loop-sample l = (list_all within_limits (samples_of l.samples) ≡ list_all within_limits (drop l.sample (samples_of l.samples)))
