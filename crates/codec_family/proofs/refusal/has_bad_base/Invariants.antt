use Rattle.std.proofs.Common.{◌≡◌, take}
use Rattle.std.specs.Prelude.{not}
use Rattle.std.specs.List.{list_all}
use Rattle.codec_family.specs.Refusals.{is_base}
use Rattle.codec_family.proofs.refusal.has_bad_base.Given as goal

-- A bad one is among those that were passed.
abbrev pub invariant-loop-base : goal.invariant-loop-base
invariant-loop-base l = l.bad ≡ not (list_all is_base (take l.base-index l.strand.bases.now))
