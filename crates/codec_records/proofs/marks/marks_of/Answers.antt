-- The first w words are those of the marks, and the others are still 0.
use Rattle.std.proofs.Common.{◌≡◌, ◌≤◌, ◌<◌, ◌*◌, ◌∙◌, length, length-drop, replicate, min, ap, refl, arith}
use Rattle.lists.specs.Tabulate.{tabulate}
use Rattle.lists.proofs.Tabulate.{tabulate_put}
use Rattle.codec_records.specs.Marks.{word_at}
use Rattle.codec_records.proofs.Words.{chunk_word, chunk-next, marks-all}
use Rattle.codec_records.proofs.marks.marks_of.Goals as goal
use Rattle.codec_records.proofs.marks.marks_of.Goals.{In-None}

pub loop-w-init : goal.loop-w-init
unfolding tabulate
loop-w-init c =
    rw (c.into_iter-w-iterator.ensures.into_iter_gives, c.enumerate-w-items.ensures.count, c.enumerate-w-items.ensures.source, c.chunks.ensures.size, c.chunks.ensures.rest)
    (omega arith, refl, refl, refl)

pub loop-w-preserved : goal.loop-w-preserved
loop-w-preserved c =
    let flags = c.args.flags.now in
    let loop = c.loop-w in
    let taken = c.in-Some.ensures.steps in
    let w = loop.w-iterator.count in
    let left = ap length loop.invariant.2 in
    let room : w < 8 = omega (arith, left, length-drop (64 * w) flags, taken.0.1.2, c.requires) in
    let size : length c.in-Some.part.now ≡ min 64 (length loop.w-iterator.iter.rest.now) = rw loop.invariant.1 at taken.0.1.1 in (
      rw taken.2 (omega arith),
      taken.0.0 ∙ loop.invariant.1,
      rw taken.2 (chunk-next flags _ _ _ w loop.invariant.2 taken.0.1.0 size),
      rw (taken.2, taken.1) (tabulate_put (word_at flags) (replicate 8 0) w room loop.invariant.3 (c.word_of.ensures ∙ chunk_word flags _ _ _ w loop.invariant.2 taken.0.1.0 size)),
    )

-- no flag is left
none : (c : In-None) → length c.args.flags.now ≤ 64 * c.loop-w.w-iterator.count
none c = omega (arith, ap length c.loop-w.invariant.2, length-drop (64 * c.loop-w.w-iterator.count) c.args.flags.now, c.in-None.ensures.steps.0.1.0)

pub returns : goal.returns
returns c = marks-all c.args.flags.now c.loop-w.w-iterator.count c.loop-w.invariant.0 (none (goal.at.returns c).In-None) c.loop-w.invariant.3
