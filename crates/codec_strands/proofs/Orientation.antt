-- Laws of turned and padded columns, over the element type.
use Rattle.std.proofs.Common.{◌≡◌, ℕ, zero, suc, ◌+◌, ◌-◌, ◌<◌, ◌≤◌, Bool, true, false, cond, List, [], ◌∷◌, ◌++◌, map, reverse, length, get_or, take, drop, replicate, set, refl, sym, ◌∙◌, ap, subst, arith}
use Rattle.std.proofs.lemmas.List.{length-append, length-replicate, length-reverse, length-map, length-take-le, take_more, map-append, drop-replicate, places, same_lists, take_at, drop_at}
use Rattle.std.proofs.lemmas.Grind.{common_steps}
use borrow.Rule.Slice.PartMut.{put_mid}
use Rattle.lists.specs.Written.{written}
use lib.Seq.{take-length}
use Rattle.lists.proofs.Written.{written_more, written-whole}
use Rattle.lists.proofs.Reverse.{map-reverse}
use Rattle.codec_strands.specs.Strands.{complement, turned, turned_bases, padded}

module _ {A : Type 0} where
  pub length-turned : (reversed : Bool) (xs : List A) → length (turned reversed xs) ≡ length xs
  length-turned true xs = length-reverse xs
  length-turned false xs = refl

  -- a column that is turned whole
  pub turned-whole : (reversed : Bool) (xs : List A) {column after : List A} → column ≡ xs → after ≡ written (turned reversed (take (length xs) column)) column → after ≡ turned reversed xs
  turned-whole reversed xs same turn = turn ∙ rw (same, take-length xs) (written-whole (turned reversed xs) xs (length-turned reversed xs))

  length-padded : (left : Bool) (pad : A) (n : ℕ) (xs : List A) → length xs ≤ n → length (padded left pad n xs) ≡ n
  length-padded true pad n xs h = simp (length-append, length-replicate) (omega arith)
  length-padded false pad n xs h = simp (length-append, length-replicate) (omega arith)

  pub length-turned-padded : (reversed left : Bool) (pad : A) (n : ℕ) (xs : List A) → length xs ≤ n → length (padded left pad n (turned reversed xs)) ≡ n
  length-turned-padded reversed left pad n xs h = length-padded left pad n (turned reversed xs) (rw (length-turned reversed xs) h)

  -- a column that is filled from the front, one place more
  pub filled_more : (value : A) (old : List A) {column : List A} (i : ℕ) → i < length old
      → column ≡ written (replicate i value) old
      → set column i value ≡ written (replicate (i + 1) value) old
  filled_more value old i h e = rw (e, length-replicate i value, length-replicate (i + 1) value) (same_lists _ _ (grind (arith, common_steps)) (λ k d within. grind (arith, common_steps)))

  -- a column that is copied place by place, one place more
  pub copied_more : (xs old : List A) {column : List A} {value : A} (i : ℕ) → i < length xs → length old ≡ length xs
      → column ≡ written (take i xs) old
      → value ≡ get_or xs i value
      → set column i value ≡ written (take (i + 1) xs) old
  copied_more xs old {column} {value} i h size e is =
      let n : length (take i xs) ≡ i = length-take-le i xs (omega arith) in
      let more : take (i + 1) xs ≡ take i xs ++ (value ∷ []) = take_more xs i value h ∙ ap (λ (v : A). take i xs ++ (v ∷ [])) (sym is) in
      rw (e, more) (subst (λ (k : ℕ). set (written (take i xs) old) k value ≡ written (take i xs ++ (value ∷ [])) old) n (written_more (take i xs) old value (omega (arith, n))))

  -- and when every place is
  pub copied_all : (xs old : List A) {column : List A} (i : ℕ) → i ≡ length xs → length old ≡ length xs → column ≡ written (take i xs) old → column ≡ xs
  copied_all xs old i end size e = e ∙ rw (end, take-length xs) (written-whole xs old (sym size))

  -- a column put over padding, at the place where it begins
  pub padded_put : (left : Bool) (pad : A) (n start k : ℕ) (xs : List A) → length xs ≤ n
      → start ≡ cond left (n - length xs) 0
      → k ≡ length xs
      → put_mid start k (replicate n pad) xs ≡ padded left pad n xs
  padded_put true pad n start k xs h e size = same_lists _ _ (grind (arith, places)) (λ i d within. grind (arith, places))
  padded_put false pad n start k xs h e size = rw (e, size, drop-replicate (length xs) n pad)

  -- the same in the first n places of a column
  pub written_put : (left : Bool) (pad : A) (n start k : ℕ) (xs old : List A) {filled put : List A} → length xs ≤ n → n ≤ length old
      → filled ≡ replicate (length (take n old)) pad
      → start ≡ cond left (n - length xs) 0
      → k ≡ length xs
      → put ≡ xs
      → put_mid start k filled put ++ drop n old ≡ written (padded left pad n xs) old
  written_put left pad n start k xs old h room fill e size same =
      rw (fill, length-take-le n old room, same, padded_put left pad n start k xs h e size, length-padded left pad n xs h)

pub length-turned_bases : (reversed : Bool) (bases : List ℕ) → length (turned_bases reversed bases) ≡ length bases
length-turned_bases true bases = length-reverse (map complement bases) ∙ length-map bases complement
length-turned_bases false bases = refl

pub length_bases_padded : (reversed left : Bool) (n : ℕ) (bases : List ℕ) → length bases ≤ n → length (padded left 110 n (turned_bases reversed bases)) ≡ n
length_bases_padded reversed left n bases h = length-padded left 110 n (turned_bases reversed bases) (rw (length-turned_bases reversed bases) h)

-- padding is its own complement
map_pads : (count : ℕ) → map complement (replicate count 110) ≡ replicate count 110
map_pads zero = refl
map_pads (suc count) = ap (λ pads. 110 ∷ pads) (map_pads count)

map_padded : (left : Bool) (n : ℕ) (bases : List ℕ) → map complement (padded left 110 n bases) ≡ padded left 110 n (map complement bases)
map_padded true n bases = rw (map-append, length-map bases complement, map_pads (n - length bases))
map_padded false n bases = rw (map-append, length-map bases complement, map_pads (n - length bases))

-- a column of bases that is turned where it was written
pub complemented : (left : Bool) (n : ℕ) (bases old : List ℕ) {column after : List ℕ} → length bases ≤ n
    → column ≡ written (padded left 110 n (reverse bases)) old
    → after ≡ map complement (take n column)
    → after ++ drop n column ≡ written (padded left 110 n (reverse (map complement bases))) old
complemented left n bases old h put is =
    let long = length-turned-padded true left 110 n bases h in
    let long' = length_bases_padded true left n bases h in
    rw (
      is,
      put,
      long,
      take_at (padded left 110 n (reverse bases)) (drop n old) n long,
      drop_at (padded left 110 n (reverse bases)) (drop n old) n long,
      map_padded left n (reverse bases),
      map-reverse complement bases,
      long',
    )
