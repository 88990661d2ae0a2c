-- What is left of the walk at the place reached gives what was asked.
use mathlib.Core.Path.{◌≡◌}
use Prim.Native.Nat.{◌*◌, ◌≤◌}
use lib.ListN.{take, drop}
use Rattle.raw_bam.specs.Cigar.{read_length}
use Rattle.raw_bam.specs.ReadPosition.{has_aligned, read_position_at, read_position}
use Rattle.raw_bam.proofs.read_pos.read_pos_at_ref_pos_raw.Given as goal

abbrev pub invariant-loop-word : goal.invariant-loop-word
invariant-loop-word l =
    (l.read ≡ read_length (take l.word-index l.ops))
    × (l.aligned ≡ has_aligned (take l.word-index l.ops))
    × (read_position_at l.ask_last (take l.word-index l.ops) (drop l.word-index l.ops) l.k ≡ read_position l.ask_last l.ops l.start l.position)
    × (l.read ≤ 268435455 * l.word-index)
