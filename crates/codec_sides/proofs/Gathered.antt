-- A side's records by the columns that are gathered for it.
use mathlib.Core.Bool.{Bool, false}
use mathlib.Core.List.{List, [], ◌∷◌, map}
use mathlib.Core.Path.{◌≡◌, refl, sym}
use Prim.Native.Nat.{ℕ, zero, suc, ◌<◌}
use lib.ListN.{length, get_or, take, length-map}
use Rattle.std.proofs.lemmas.List.{get_or-map}
use Rattle.lists.specs.Written.{written}
use Rattle.lists.proofs.Written.{take_count}
use Rattle.raw_bam.specs.Simplified.{joined_by, simplified}
use Rattle.vanilla_caller.specs.Side.{HasRecord, list_of}
use Rattle.codec_sides.specs.Side.{HaveOperations, gathered}

module _ {A : Type 0} (d : A) (column : List A) (side : List ℕ) where
  pub length-gathered : length (gathered d column side) ≡ length side
  length-gathered = length-map side (λ r. get_or column r d)

  -- the part that was gathered
  pub take-gathered : (old : List A) {col : List A} → col ≡ written (gathered d column side) old → take (length side) col ≡ gathered d column side
  take-gathered old {col} e = take_count (gathered d column side) old col (length side) (sym length-gathered) e

module _ (ops starts counts : List ℕ) (is_reverse : List Bool) where
  -- the list of the record at place k of the side
  pub list_gathered : (side : List ℕ) (k : ℕ) → list_of ops (gathered 0 starts side) (gathered 0 counts side) (gathered false is_reverse side) k ≡ get_or (map (list_of ops starts counts is_reverse) side) k []
  unfolding list_of simplified joined_by
  list_gathered [] k = refl
  list_gathered (r ∷ side) zero = refl
  list_gathered (r ∷ side) (suc k) = list_gathered side k

  pub has_gathered : (side : List ℕ) → HaveOperations ops starts counts side → (k : ℕ) → k < length side → HasRecord ops (gathered 0 starts side) (gathered 0 counts side) (gathered false is_reverse side) k
  has_gathered side has k h =
      let own = has k h in
      let start = get_or-map (λ r. get_or starts r 0) side k 0 0 h in
      let count = get_or-map (λ r. get_or counts r 0) side k 0 0 h in
      record {
        has_start = rw (length-gathered 0 starts side) h;
        has_count = rw (length-gathered 0 counts side) h;
        has_reverse = rw (length-gathered false is_reverse side) h;
        part = rw (start, count) own.part;
        short = rw count own.short;
      }
