-- Laws of the fields of a line by a layout.
use Rattle.std.proofs.Common.{◌≡◌, ◌+◌, ◌≤◌, ◌<◌, ℕ, List, [], ◌∷◌, ◌++◌, length, get_or, drop, take, set, append_assoc, refl, sym, ◌∙◌, ap, Some, None}
use Rattle.std.proofs.lemmas.List.{drop_more, drop_all, take_more_set}
use Rattle.table_text.specs.Fields.{Read}
use Rattle.line_text.specs.Line.{in_front, values_of}
use Rattle.line_text.specs.Value.{value_field}
use Rattle.line_text.specs.declared.value.Kind.{Kind}
use Rattle.line_text.specs.declared.value.Value.{Value}

pub front_none : (r : Read (List Value)) → in_front [] r ≡ r
front_none (Some (vs, rest)) = refl
front_none None = refl

-- values in front of values in front
front_more : (vs ws : List Value) (r : Read (List Value)) → in_front vs (in_front ws r) ≡ in_front (vs ++ ws) r
front_more vs ws (Some (us, rest)) = ap (λ (l : List Value). Some (l, rest)) (sym (append_assoc vs ws us))
front_more vs ws None = refl

module _ (layout : List Kind) (i : ℕ) (d : Kind) (all : Read (List Value)) (values : List Value) (fields : List (List ℕ)) where
  -- the next field, and those after it
  pub values_next : all ≡ in_front (take i values) (values_of (drop i layout) fields) → i < length layout → i < length values
      → (v : Value) (rest : List (List ℕ)) → Some (v, rest) ≡ value_field (get_or layout i d) fields
      → all ≡ in_front (take (i + 1) (set values i v)) (values_of (drop (i + 1) layout) rest)
  unfolding values_of
  values_next e h k v rest said =
      e ∙ rw (drop_more layout i d h, ← said, take_more_set values i v k) (front_more (take i values) (v ∷ []) (values_of (drop (i + 1) layout) rest))

  -- the next field has no such value
  pub values_stop : all ≡ in_front (take i values) (values_of (drop i layout) fields) → i < length layout → None ≡ value_field (get_or layout i d) fields → all ≡ None
  unfolding values_of
  values_stop e h said = e ∙ rw (drop_more layout i d h, ← said)

  -- no field is left to read
  pub values_end : all ≡ in_front (take i values) (values_of (drop i layout) fields) → length layout ≤ i → all ≡ in_front (take i values) (Some ([], fields))
  unfolding values_of
  values_end e h = e ∙ rw (drop_all i layout h)
