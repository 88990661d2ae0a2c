-- Laws of lines of numbers.
use Rattle.std.proofs.Common.{◌≡◌, ◌+◌, ◌-◌, ◌≤◌, ◌<◌, ℕ, Bool, true, false, cond, ltb, List, [], ◌∷◌, ◌++◌, append_assoc, append-nil, length, take, set, map, refl, sym, ◌∙◌, ap, arith, Option, Some, None}
use Rattle.std.proofs.lemmas.Bool.{lt-ltb, le-ltb, ltb-true, ltb-false}
use Rattle.std.proofs.lemmas.List.{take_more_set, take_all, map-append}
use Rattle.std.specs.Bool.{then_some}
use Rattle.std.specs.Option.{option_map}
use Rattle.table_text.proofs.FieldLists.{same-read, fields_none, fields_some}
use Rattle.table_text.specs.Decimal.{number}
use Rattle.table_text.specs.Fields.{number_field, value_of, fields_from}
use Rattle.line_text.specs.Numbers.{after, number_then, numbers_of}

pub after_none : (r : Option (List ℕ)) → after [] r ≡ r
after_none (Some xs) = refl
after_none None = refl

after_more : (xs ys : List ℕ) (r : Option (List ℕ)) → after xs (after ys r) ≡ after (xs ++ ys) r
after_more xs ys (Some zs) = ap Some (sym (append_assoc xs ys zs))
after_more xs ys None = refl

module _ (room limit : ℕ) where
  -- the next number, and those after it
  numbers_next : (fields rest : List (List ℕ)) (v : ℕ) → 0 < room → Some (v, rest) ≡ number_field limit fields → numbers_of room limit fields ≡ after (v ∷ []) (numbers_of (room - 1) limit rest)
  unfolding numbers_of number_field
  numbers_next [] rest v h e = absurd cc
  numbers_next (field ∷ fields) rest v h e = rw (lt-ltb 0 room h) (go (number limit field) e)
    where
      go : (n : Option ℕ) → Some (v, rest) ≡ value_of n fields → number_then n (numbers_of (room - 1) limit fields) ≡ after (v ∷ []) (numbers_of (room - 1) limit rest)
      go (Some w) f =
          let same = same-read f in
          rw (same.0, same.1)
      go None f = absurd cc

  numbers_stop : (field : List ℕ) (fields : List (List ℕ)) → None ≡ number_field limit (field ∷ fields) → numbers_of room limit (field ∷ fields) ≡ None
  unfolding numbers_of number_field
  numbers_stop field fields e = go (ltb 0 room) (number limit field) e
    where
      go : (t : Bool) (n : Option ℕ) → None ≡ value_of n fields → cond t (number_then n (numbers_of (room - 1) limit fields)) None ≡ None
      go true (Some w) f = absurd cc
      go true None f = refl
      go false n f = refl

-- there is no room for a field
numbers_full : (room limit : ℕ) (field : List ℕ) (fields : List (List ℕ)) → room ≤ 0 → numbers_of room limit (field ∷ fields) ≡ None
unfolding numbers_of
numbers_full room limit field fields h = rw (le-ltb 0 room h)

numbers_none : (room limit : ℕ) → numbers_of room limit [] ≡ Some []
unfolding numbers_of
numbers_none room limit = refl

-- the numbers of the fields passed stand in the first places of a column
module _ {A : Type 0} (value : A → ℕ) (limit : ℕ) (line : List ℕ) (column : List A) (n at : ℕ) (all : Option (List ℕ))
    (so_far : all ≡ after (map value (take n column)) (numbers_of (length column - n) limit (fields_from line at))) where
  pub goes_on : (x : A) (v next : ℕ) → n < length column → value x ≡ v → Some (v, fields_from line next) ≡ number_field limit (fields_from line at)
      → all ≡ after (map value (take (n + 1) (set column n x))) (numbers_of (length column - (n + 1)) limit (fields_from line next))
  goes_on x v next h is e =
      let less : length column - n - 1 ≡ length column - (n + 1) = omega arith in
      let next_one = numbers_next (length column - n) limit (fields_from line at) (fields_from line next) v (omega arith) e in
      so_far ∙ rw (next_one, less, take_more_set column n x h, map-append value (take n column) (x ∷ []), is) (after_more (map value (take n column)) (v ∷ []) (numbers_of (length column - (n + 1)) limit (fields_from line next)))

  pub stops : at ≤ length line → None ≡ number_field limit (fields_from line at) → None ≡ all
  stops inside e =
      let first = fields_some line at inside in
      rw (so_far, first.2, numbers_stop (length column - n) limit first.0 first.1 (rw first.2 at e))

  full : at ≤ length line → length column ≤ n → all ≡ None
  full inside h =
      let first = fields_some line at inside in
      let none : length column - n ≤ 0 = omega arith in
      so_far ∙ rw (first.2, numbers_full (length column - n) limit first.0 first.1 none)

  pub ends : length line < at → Some (map value (take n column)) ≡ all
  ends past = rw (so_far, fields_none line at past, numbers_none (length column - n) limit, append-nil (map value (take n column)))

  -- the column is full: a field more has no room
  pub decided : length column ≤ n → option_map (λ k. map value (take k column)) (then_some (ltb (length line) at) (length column)) ≡ all
  decided h = go (ltb (length line) at) refl
    where
      go : (t : Bool) → ltb (length line) at ≡ t → option_map (λ k. map value (take k column)) (then_some t (length column)) ≡ all
      go true e =
          let whole : take (length column) column ≡ take n column = rw (take_all n column h, take_all (length column) column (omega arith)) in
          rw whole (ends (ltb-true (length line) at e))
      go false e = sym (full (ltb-false (length line) at e) h)
