-- The alignment of a side's longest record.
use Rattle.std.specs.Prelude.{List, ◌≡◌, ℕ, ◌≤◌, length}
use Rattle.raw_bam.specs.Cigar.{read_length, reference_length}

-- its position from 1, its clipped length and its operations
pub record Alignment : Type 0 where
  pub position : ℕ
  pub clipped_length : ℕ
  pub ops : List ℕ

abbrev pub alignment_of : (position clipped_length : ℕ) → List ℕ → Alignment
alignment_of position clipped_length ops = record { position = position; clipped_length = clipped_length; ops = ops }

-- what refusals 3, 5 and 6 leave of an alignment
pub record Admitted (a : Alignment) : Type 0 where
  pub operations : length a.ops ≤ 64
  pub clipped : a.clipped_length ≡ read_length a.ops
  pub short : a.clipped_length ≤ 1024
  pub near : a.position ≤ 536870911
  pub narrow : reference_length a.ops ≤ 536870911
