-- Laws of the records of a side that stay.
use Rattle.std.proofs.Common.{◌≡◌, ◌+◌, ◌≤◌, ◌<◌, ℕ, zero, suc, Bool, true, false, List, [], ◌∷◌, length, get_or, take, drop, drop-cons, refl, arith, add-one}
use lib.Seq.{take-nil}
use Rattle.codec_records.specs.Side.{kept}

-- the record at place k stays, or does not
module _ (side : List ℕ) (stays : List Bool) (k : ℕ) (h : k < length side) (g : k < length stays) where
  pub kept_yes : get_or stays k false ≡ true → kept (drop k side) (drop k stays) ≡ get_or side k 0 ∷ kept (drop (k + 1) side) (drop (k + 1) stays)
  unfolding kept
  kept_yes e = rw (add-one, drop-cons side k 0, drop-cons stays k false, e)

  pub kept_no : get_or stays k false ≡ false → kept (drop k side) (drop k stays) ≡ kept (drop (k + 1) side) (drop (k + 1) stays)
  unfolding kept
  kept_no e = rw (add-one, drop-cons side k 0, drop-cons stays k false, e)

pub kept-none : (side : List ℕ) → kept side [] ≡ []
unfolding kept
kept-none [] = refl
kept-none (r ∷ side) = refl

-- a record that has no flag is not asked
pub kept-take : (side : List ℕ) (stays : List Bool) (n : ℕ) → length stays ≤ n → kept (take n side) stays ≡ kept side stays
unfolding kept
kept-take [] stays n h = rw (take-nil {A = ℕ} n)
kept-take (r ∷ side) [] zero h = refl
kept-take (r ∷ side) [] (suc n) h = refl
kept-take (r ∷ side) (stay ∷ stays) zero h = absurd (omega arith)
kept-take (r ∷ side) (true ∷ stays) (suc n) h = rw (kept-take side stays n (omega arith))
kept-take (r ∷ side) (false ∷ stays) (suc n) h = kept-take side stays n (omega arith)

pub length-kept : (side : List ℕ) (stays : List Bool) → length (kept side stays) ≤ length side
unfolding kept
length-kept [] stays = omega arith
length-kept (r ∷ side) [] = omega arith
length-kept (r ∷ side) (true ∷ stays) = omega (arith, length-kept side stays)
length-kept (r ∷ side) (false ∷ stays) = omega (arith, length-kept side stays)

-- what holds of each record of a side holds of each that stays
pub kept_each : (P : ℕ → Type 0) (side : List ℕ) (stays : List Bool) → ((k : ℕ) → k < length side → P (get_or side k 0)) → (k : ℕ) → k < length (kept side stays) → P (get_or (kept side stays) k 0)
unfolding kept
kept_each P [] stays holds k h = absurd (omega arith)
kept_each P (r ∷ side) [] holds k h = absurd (omega arith)
kept_each P (r ∷ side) (true ∷ stays) holds zero h = holds 0 (omega arith)
kept_each P (r ∷ side) (true ∷ stays) holds (suc k) h = kept_each P side stays (λ j below. holds (suc j) (omega arith)) k (omega arith)
kept_each P (r ∷ side) (false ∷ stays) holds k h = kept_each P side stays (λ j below. holds (suc j) (omega arith)) k h
