-- Laws of the places of a byte: the first in what is left of a text, and how many there are.
use Rattle.std.proofs.Common.{true, false, cond, ◌≡◌, ◌+◌, ◌≤◌, ◌<◌, ℕ, List, [], ◌∷◌, Bool, length, drop, slice_index_or, eqb, suc, refl, arith}
use Rattle.std.proofs.lemmas.List.{drop_more, drop_all}
use Rattle.std.proofs.lemmas.Bool.{eq-eqb, eqb-true}
use Rattle.std.proofs.lemmas.List.Recursion.{is_count_by}
use Rattle.std.specs.List.{count_by}
use Rattle.table_text.specs.Bytes.{index_of, index_after}
use Rattle.table_text.specs.Parts.{Parts, last, ended, in_front, parts, ended_parts}

front : (byte b : ℕ) (bs : List ℕ) → b ≡ byte → index_of byte (b ∷ bs) ≡ 0
unfolding index_of index_after
front byte b bs is = rw (eq-eqb b byte is) refl

behind : (byte b : ℕ) (bs : List ℕ) → (b ≡ byte → ⊥) → index_of byte (b ∷ bs) ≡ suc (index_of byte bs)
unfolding index_of index_after
behind byte b bs isn't = go (eqb b byte) (eqb-true b byte)
  where
    go : (here : Bool) → (here ≡ true → b ≡ byte) → index_after here (index_of byte bs) ≡ suc (index_of byte bs)
    go true is = absurd (isn't (is refl))
    go false is = refl

nowhere : (byte : ℕ) → index_of byte [] ≡ 0
unfolding index_of
nowhere byte = refl

pub first_here : (byte : ℕ) (text : List ℕ) (at : ℕ) → at < length text → slice_index_or text at 0 ≡ byte → index_of byte (drop at text) ≡ 0
first_here byte text at inside is = rw (drop_more text at 0 inside) (front byte (slice_index_or text at 0) (drop (at + 1) text) is)

pub first_further : (byte : ℕ) (text : List ℕ) (at : ℕ) → at < length text → (slice_index_or text at 0 ≡ byte → ⊥)
    → index_of byte (drop at text) ≡ suc (index_of byte (drop (at + 1) text))
first_further byte text at inside isn't = rw (drop_more text at 0 inside) (behind byte (slice_index_or text at 0) (drop (at + 1) text) isn't)

pub first_nowhere : (byte : ℕ) (text : List ℕ) (at : ℕ) → length text ≤ at → index_of byte (drop at text) ≡ 0
first_nowhere byte text at past = rw (drop_all at text past) (nowhere byte)

-- a part is ended by each such byte
pub parts_counted : (byte : ℕ) (text : List ℕ) → ended_parts (parts byte text) ≡ count_by (λ b. eqb b byte) text
unfolding parts ended_parts in_front
parts_counted byte = is_count_by (λ text. ended_parts (parts byte text)) (λ b. eqb b byte) refl next
  where
    next : (b : ℕ) (bs : List ℕ) → ended_parts (parts byte (b ∷ bs)) ≡ cond (eqb b byte) (1 + ended_parts (parts byte bs)) (ended_parts (parts byte bs))
    next b bs = go (eqb b byte) (parts byte bs)
      where
        go : (t : Bool) (p : Parts) → ended_parts (cond t (ended [] p) (in_front b p)) ≡ cond t (1 + ended_parts p) (ended_parts p)
        go true p = omega arith
        go false (last part) = refl
        go false (ended part more) = refl
