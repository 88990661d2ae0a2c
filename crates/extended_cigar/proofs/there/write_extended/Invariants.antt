-- The words of the operations passed are written, and those of the operations left are made of the bases left.
use Rattle.std.proofs.Common.{◌≡◌, ◌+◌, ◌≤◌, ◌++◌, List, ℕ, length, drop}
use Rattle.lists.specs.Written.{written}
use Rattle.raw_bam.specs.Cigar.{read_length, reference_length}
use Rattle.extended_cigar.specs.Extended.{extended_from, extended}
use Rattle.extended_cigar.proofs.there.write_extended.Given as goal

abbrev pub invariant-loop-word : goal.invariant-loop-word
invariant-loop-word l =
    let left = drop l.word-index l.words in
    (done : List ℕ)
    × (done ++ extended_from l.read_left l.reference_left 0 0 left ≡ extended l.words l.read l.reference)
    × (l.n ≡ length done)
    × (l.output ≡ written done l.initial.output)
    × (length l.read_left ≡ read_length left)
    × (length l.reference_left ≡ reference_length left)
    × (length l.read_left ≤ 1024)
    × (l.n + length l.read_left + length left ≤ 1088)
