-- The field goes up to the next space or the end, and is a base where it is one byte long.
use Rattle.std.proofs.Common.{◌≡◌, ◌≢◌, ℕ, List, [], ◌∷◌, cond, length, slice_index_or, Some, None, refl, sym, ◌∙◌, arith}
use Rattle.table_text.specs.Fields.{is_base, base_field}
use Rattle.table_text.proofs.FieldLists.{fields_none, fields_next}
use Rattle.table_text.proofs.fields.read_base.Goals as goal

other : (field : List ℕ) (rest : List (List ℕ)) → length field ≢ 1 → None ≡ base_field (field ∷ rest)
unfolding base_field
other [] rest h = refl
other (b ∷ []) rest h = absurd (h refl)
other (b ∷ c ∷ bs) rest h = refl

one : (field : List ℕ) (rest : List (List ℕ)) → length field ≡ 1 → base_field (field ∷ rest) ≡ cond (is_base (slice_index_or field 0 0)) (Some (slice_index_or field 0 0, rest)) None
unfolding base_field
one [] rest h = absurd (omega arith)
one (b ∷ []) rest h = refl
one (b ∷ c ∷ bs) rest h = absurd (omega arith)

pub returns-then-line-at : goal.returns-then-line-at
unfolding base_field
returns-then-line-at c = rw (fields_none _ _ c.if-line-at.true)

pub returns-in-len1 : goal.returns-in-len1
returns-in-len1 c =
    let found = c.part_end-end.ensures in
    rw (fields_next _ _ _ c.if-line-at.false found.0 found.1) (sym (one _ _ (omega arith) ∙ rw (sym c.if-is_base.ensures)))

pub returns-in_default : goal.returns-in_default
returns-in_default c =
    let found = c.part_end-end.ensures in
    rw (fields_next _ _ _ c.if-line-at.false found.0 found.1) (other _ _ (λ e. omega arith))

pub returns-in_default-2 : goal.returns-in_default-2
returns-in_default-2 c =
    let found = c.part_end-end.ensures in
    rw (fields_next _ _ _ c.if-line-at.false found.0 found.1) (sym (one _ _ (omega arith) ∙ rw (sym c.if-is_base.ensures)))

pub returns-in_default-3 : goal.returns-in_default-3
returns-in_default-3 c =
    let found = c.part_end-end.ensures in
    rw (fields_next _ _ _ c.if-line-at.false found.0 found.1) (other _ _ (λ e. omega arith))
