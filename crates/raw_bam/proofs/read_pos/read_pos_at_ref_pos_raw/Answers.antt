use mathlib.Core.List.{[]}
use mathlib.Core.Path.{◌≡◌, refl, sym, ◌∙◌}
use Prim.Native.Nat.{◌-◌}
use native.Mathlib.Numerals.{add-one}
use native.Mathlib.Omega.{arith}
use borrow.Author.Tests.{le-ltb}
use lib.ListN.{drop, drop_of_length-le}
use lib.Seq.{take-suc}
use Rattle.lists.specs.Total.{total}
use Rattle.lists.proofs.Total.{total_more}
use Rattle.raw_bam.specs.Cigar.{read_bases}
use Rattle.raw_bam.specs.ReadPosition.{has_aligned, read_position_at, read_position}
use Rattle.raw_bam.proofs.Positions.{has_aligned_more, position_here, position_on, position-before}
use Rattle.raw_bam.proofs.read_pos.read_pos_at_ref_pos_raw.Goals as goal

pub returns-in_err-k : goal.returns-in_err-k
returns-in_err-k c = rw (position-before c.args.ask_last c.args.ops.now c.args.start c.args.position (omega (arith, c.in_err-k.ensures))) c.from_residual.ensures

pub loop-word-init : goal.loop-word-init
unfolding total has_aligned read_position
loop-word-init c =
    let k : c.in_ok-k.k ≡ c.args.position - c.args.start = omega (arith, c.in_ok-k.ensures) in
    (refl, refl, rw (le-ltb c.args.position c.args.start (omega (arith, c.in_ok-k.ensures)), k), omega arith)

pub returns-then-k-bases : goal.returns-then-k-bases
returns-then-k-bases c =
    let at = c.loop-word in
    let here = position_here c.args.ask_last c.args.ops.now at.word-index at.k (omega arith) (omega (arith, c.bases_of-bases.ensures.reference)) in
    rw (← at.invariant.2, here, ← at.invariant.0, ← at.invariant.1) c.position_inside.ensures

pub loop-word-preserved : goal.loop-word-preserved
loop-word-preserved c =
    let at = c.loop-word in
    let ops = c.args.ops.now in
    let on = position_on c.args.ask_last ops at.word-index at.k (omega arith) (omega (arith, c.bases_of-bases.ensures.reference)) in (
      omega (arith, total_more read_bases ops at.word-index 0 (omega arith), c.bases_of-bases.ensures.read),
      rw (add-one, take-suc ops at.word-index 0 (omega arith), has_aligned_more, ← at.invariant.1, ← c.has_aligned_base-aligned.ensures),
      rw c.bases_of-bases.ensures.reference (sym on ∙ at.invariant.2),
      omega arith,
    )

pub returns : goal.returns
unfolding read_position_at
returns c =
    let at = c.loop-word in
    let none : drop at.word-index c.args.ops.now ≡ [] = drop_of_length-le c.args.ops.now {i = at.word-index} (omega arith) in
    rw none at at.invariant.2
