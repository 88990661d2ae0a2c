-- The flags that are left, and behind them those whose word the loop has.
use Rattle.std.proofs.Common.{Bool, List, ◌++◌, ◌≡◌}
use Rattle.codec_records.specs.Marks.{word_of}
use Rattle.codec_records.proofs.marks.word_of.Given as goal

abbrev pub invariant-loop-flag : goal.invariant-loop-flag
invariant-loop-flag l = (done : List Bool) × (l.flag-iterator.iter.rest.now ++ done ≡ l.flags) × (l.word ≡ word_of done)
