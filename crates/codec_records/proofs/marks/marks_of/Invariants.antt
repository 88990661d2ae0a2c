-- Each word that a chunk has given is written, and the chunks to come are of the flags behind it.
use Rattle.std.proofs.Common.{◌≡◌, ◌≤◌, ◌*◌, drop, replicate}
use Rattle.lists.specs.Tabulate.{tabulate}
use Rattle.lists.specs.Written.{written}
use Rattle.codec_records.specs.Marks.{word_at}
use Rattle.codec_records.proofs.marks.marks_of.Given as goal

abbrev pub invariant-loop-w : goal.invariant-loop-w
invariant-loop-w l =
    (l.w-iterator.count ≤ 8)
    × (l.w-iterator.iter.size ≡ 64)
    × (l.w-iterator.iter.rest.now ≡ drop (64 * l.w-iterator.count) l.flags)
    × (l.words ≡ written (tabulate (word_at l.flags) l.w-iterator.count) (replicate 8 0))
