-- Laws of a text taken apart at a byte: the first part ends where the byte first stands.
use mathlib.Core.Bool.{Bool, true, false, cond}
use mathlib.Core.List.{List, [], ◌∷◌}
use mathlib.Core.Path.{◌≡◌, refl}
use Prim.Native.Nat.{ℕ, suc, ◌+◌, ◌-◌, ◌≤◌, ◌<◌}
use native.Mathlib.Omega.{arith}
use lib.Dec.{eqb}
use lib.ListN.{length, take, drop, length-drop}
use lib.Seq.{drop-drop}
use Rattle.table_text.specs.Bytes.{index_of, index_after}
use Rattle.table_text.specs.Parts.{last, ended, in_front, parts}

first_ended : (byte : ℕ) (xs : List ℕ) → index_of byte xs < length xs
    → parts byte xs ≡ ended (take (index_of byte xs) xs) (parts byte (drop (suc (index_of byte xs)) xs))
unfolding parts in_front index_of index_after
first_ended byte [] h = absurd (omega arith)
first_ended byte (b ∷ bs) h = go (eqb b byte) (first_ended byte bs) h
  where
    k : ℕ
    k = index_of byte bs

    go : (here : Bool) → (k < length bs → parts byte bs ≡ ended (take k bs) (parts byte (drop (suc k) bs))) → index_after here k < suc (length bs)
        → cond here (ended [] (parts byte bs)) (in_front b (parts byte bs)) ≡ ended (take (index_after here k) (b ∷ bs)) (parts byte (drop (suc (index_after here k)) (b ∷ bs)))
    go true more l = refl
    go false more l = rw (more (omega arith))

first_last : (byte : ℕ) (xs : List ℕ) → length xs ≤ index_of byte xs → parts byte xs ≡ last xs
unfolding parts in_front index_of index_after
first_last byte [] h = refl
first_last byte (b ∷ bs) h = go (eqb b byte) (first_last byte bs) h
  where
    k : ℕ
    k = index_of byte bs

    go : (here : Bool) → (length bs ≤ k → parts byte bs ≡ last bs) → suc (length bs) ≤ index_after here k
        → cond here (ended [] (parts byte bs)) (in_front b (parts byte bs)) ≡ last (b ∷ bs)
    go true more l = absurd (omega arith)
    go false more l = rw (more (omega arith))

module _ (byte : ℕ) (text : List ℕ) (at end : ℕ) (is : end ≡ at + index_of byte (drop at text)) where
  pub part_ended : end < length text → parts byte (drop at text) ≡ ended (take (end - at) (drop at text)) (parts byte (drop (end + 1) text))
  part_ended h =
      let k = index_of byte (drop at text) in
      let size : end - at ≡ k = omega arith in
      let past : end + 1 ≡ at + suc k = omega arith in
      rw (size, past, ← drop-drop (suc k) at text) (first_ended byte (drop at text) (omega (arith, length-drop at text)))

  pub part_last : at ≤ length text → length text ≤ end → parts byte (drop at text) ≡ last (drop at text)
  part_last inside h = first_last byte (drop at text) (omega (arith, length-drop at text))
