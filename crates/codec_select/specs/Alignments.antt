-- The alignments of a family's records, as columns, and the operation words.
use Rattle.std.specs.Prelude.{Bool, true, List, ◌≡◌, ℕ, ◌≤◌, ◌<◌, length, get_or}
use Rattle.codec_pairing.specs.Pairing.{is_entered}
use Rattle.codec_records.specs.Records.{column}
use Rattle.codec_sides.specs.Side.{HasOperations, operations_of}
use Rattle.codec_window.specs.Alignment.{Alignment, Admitted}
use Rattle.codec_records.specs.declared.family.Family.{Family}
use Rattle.codec_records.specs.declared.records.Record.{Record}

pub record Alignments : Type 0 where
  pub flags : List ℕ
  pub clipped : List ℕ
  pub positions : List ℕ
  pub starts : List ℕ
  pub counts : List ℕ
  pub ops : List ℕ

abbrev pub alignments : List ℕ → List ℕ → List ℕ → List ℕ → List ℕ → List ℕ → Alignments
alignments flags clipped positions starts counts ops =
    record { flags = flags; clipped = clipped; positions = positions; starts = starts; counts = counts; ops = ops }

abbrev pub alignments_of : List Record → List ℕ → Alignments
alignments_of records ops =
    alignments (column Record.flags records) (column Record.clipped records) (column Record.position records) (column Record.start records)
    (column Record.count records) ops

abbrev pub alignments_in : Family → Alignments
alignments_in f = alignments f.flags.now f.clipped.now f.positions.now f.starts.now f.counts.now f.ops.now

-- the alignment of record r
abbrev pub alignment_of : Alignments → ℕ → Alignment
alignment_of a r =
    record {
      position = get_or a.positions r 0;
      clipped_length = get_or a.clipped r 0;
      ops = operations_of a.ops a.starts a.counts r;
    }

-- what the refusals leave of record r: it is in the columns, and its alignment is admitted
pub record Admissible (a : Alignments) (r : ℕ) : Type 0 where
  pub has_flags : r < length a.flags
  pub has_clipped : r < length a.clipped
  pub has_position : r < length a.positions
  pub has_operations : HasOperations a.ops a.starts a.counts r
  pub admitted : Admitted (alignment_of a r)

-- a side of one to 256 such records
pub record Formed (a : Alignments) (side : List ℕ) : Type 0 where
  pub some : 0 < length side
  pub few : length side ≤ 256
  pub admissible : (k : ℕ) → k < length side → Admissible a (get_or side k 0)

-- each record that is entered is admissible
abbrev pub EnteredAdmissible : Alignments → List ℕ → List Bool → Type 0
EnteredAdmissible a names verdicts = (r : ℕ) → r < length a.flags → is_entered a.flags names verdicts r ≡ true → Admissible a r
