-- A flag and a strand are the strand where it is there.
use Rattle.std.proofs.Common.{◌≡◌, Bool, true, false, refl, sym, ◌∙◌, ap, rules}
use Rattle.std.specs.Prelude.{option_map}
use Rattle.std.specs.Bool.{then_some}
use Rattle.codec_duplex.specs.Lent.{strand_of}
use Rattle.codec_ffi.proofs.family.codec_ffi_family.Goals as goal

option_map-then_some : {A B : Type 0} (f : A → B) (has : Bool) (x : A) → option_map f (then_some has x) ≡ then_some has (f x)
option_map-then_some f true x = refl
option_map-then_some f false x = refl

pub returns : goal.returns
returns c =
    let r1 = ap (option_map strand_of) c.then_some.ensures ∙ option_map-then_some strand_of c.args.has_r1 _ in
    let r2 = ap (option_map strand_of) c.then_some-2.ensures ∙ option_map-then_some strand_of c.args.has_r2 _ in
    let called = rw (r1, r2) at (c.consensus_reads_sampled.ensures.called c.args.records.now c.args.ops.now (sym c.choose-chosen.ensures.given) (rw c.choose-chosen.ensures.given c.choose-chosen.ensures.selected)) in
    search rules
