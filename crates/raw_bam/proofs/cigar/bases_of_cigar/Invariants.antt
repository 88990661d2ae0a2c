-- The sums over the operations passed; a word's length is below 2^28, which bounds them.
use mathlib.Core.Path.{◌≡◌}
use Prim.Native.Nat.{◌*◌, ◌≤◌}
use lib.ListN.{take}
use Rattle.raw_bam.specs.Cigar.{read_length, reference_length}
use Rattle.raw_bam.proofs.cigar.bases_of_cigar.Given as goal

abbrev pub invariant-loop-word : goal.invariant-loop-word
invariant-loop-word l =
    record {
      read : l.read ≡ read_length (take l.word-index l.ops);
      reference : l.reference ≡ reference_length (take l.word-index l.ops);
      read_fits : l.read ≤ 268435455 * l.word-index;
      reference_fits : l.reference ≤ 268435455 * l.word-index;
    }
