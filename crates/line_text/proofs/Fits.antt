-- The values of a line fit its layout.
use Rattle.std.proofs.Common.{◌≡◌, ◌+◌, ◌≤◌, ◌<◌, ℕ, zero, suc, Bool, true, false, cond, leb, ◌&&◌, List, [], ◌∷◌, length, get_or, take, drop, refl, arith, Option, Some, None}
use Rattle.std.proofs.lemmas.Bool.{leb-true}
use Rattle.std.specs.Option.{option_map}
use Rattle.std.specs.Str.{bytes_eq}
use Rattle.table_text.proofs.FieldLists.{same-read}
use Rattle.table_text.proofs.Decimals.{number-le}
use Rattle.table_text.specs.Decimal.{number}
use Rattle.table_text.specs.Fields.{Read, and_then, fields_of}
use Rattle.table_text.specs.Rows.{alone}
use Rattle.line_text.specs.Fit.{Fit, Fitting}
use Rattle.line_text.specs.Line.{behind_tag, in_front, values_of, values_alone, line_of}
use Rattle.line_text.specs.Value.{magnitude, plainly, negated, below, or_none, signed, field_value, value_then, value_field}
use Rattle.line_text.specs.declared.value.Kind.{Kind}
use Rattle.line_text.specs.declared.value.Kind.TheVariants.{Plain, OrNone, Signed}
use Rattle.line_text.specs.declared.value.Value.{Value}
use Rattle.line_text.specs.declared.value.Value.TheVariants.{Nothing, Number, Below}

-- where a value is read it fits
Fits : Kind → Option Value → Type 0
Fits kind r = (v : Value) → r ≡ Some v → Fit kind v

fits_none : (kind : Kind) → Fits kind None
unfolding Fits
fits_none kind v e = absurd cc

module _ (limit : ℕ) where
  numbered : (kind : Kind) → ((n : ℕ) → n ≤ limit → Fit kind (Number n)) → (field : List ℕ) → Fits kind (plainly limit field)
  unfolding Fits
  numbered kind fit field = go (number limit field) refl
    where
      go : (n : Option ℕ) → number limit field ≡ n → (v : Value) → option_map Number n ≡ Some v → Fit kind v
      go (Some m) p v e = let same : Number m ≡ v = cc in rw (← same) (fit m (number-le limit field m p))
      go None p v e = absurd cc

  negative : (n : Option ℕ) → Fits (Signed limit) (negated limit n)
  unfolding Fits
  negative (Some m) v = go (leb 1 m) refl (leb m (limit + 1)) refl
    where
      go : (t : Bool) → leb 1 m ≡ t → (u : Bool) → leb m (limit + 1) ≡ u → cond (t && u) (Some (Below m)) None ≡ Some v → Fit (Signed limit) v
      go true p true q e = let same : Below m ≡ v = cc in rw (← same) (leb-true 1 m p, leb-true m (limit + 1) q)
      go true p false q e = absurd cc
      go false p u q e = absurd cc
  negative None v = λ e. absurd cc

  optional : (field : List ℕ) → Fits (OrNone limit) (or_none limit field)
  unfolding Fits or_none
  optional field = go (bytes_eq field (45 ∷ []))
    where
      go : (t : Bool) (v : Value) → cond t (Some Nothing) (plainly limit field) ≡ Some v → Fit (OrNone limit) v
      go true v e = let same : Nothing ≡ v = cc in rw (← same) tt
      go false v e = numbered (OrNone limit) (λ n h. h) field v e

  with_sign : (field : List ℕ) → Fits (Signed limit) (signed limit field)
  unfolding Fits signed below
  with_sign field = go (bytes_eq (take 1 field) (45 ∷ []))
    where
      go : (t : Bool) (v : Value) → cond t (negated limit (number 18446744073709551615 (drop 1 field))) (plainly limit field) ≡ Some v → Fit (Signed limit) v
      go true v e = negative (number 18446744073709551615 (drop 1 field)) v e
      go false v e = numbered (Signed limit) (λ n h. h) field v e

fit_field : (kind : Kind) (field : List ℕ) → Fits kind (field_value kind field)
unfolding field_value
fit_field (Plain limit) field = numbered limit (Plain limit) (λ n h. h) field
fit_field (OrNone limit) field = optional limit field
fit_field (Signed limit) field = with_sign limit field

-- a value for each kind, and each fits
pub record Fitted (layout : List Kind) (vs : List Value) : Type 0 where
  pub size : length vs ≡ length layout
  pub each : Fitting layout vs

no_value : {A : Type 0} (a : A) (rest : List (List ℕ)) → ◌≡◌ {A = Read A} None (Some (a, rest)) → ⊥
no_value a rest e = cc

fit_next : (kind : Kind) (kinds : List Kind) (v : Value) → Fit kind v → (ws vs : List Value) (more rest : List (List ℕ)) → Fitted kinds ws → ◌≡◌ {A = Read (List Value)} (Some (v ∷ ws, more)) (Some (vs, rest)) → Fitted (kind ∷ kinds) vs
fit_next kind kinds v fit ws vs more rest fitted e =
    rw (← (same-read e).0) (record { size = omega (arith, fitted.size); each = go })
  where
    go : (k : ℕ) → k < suc (length kinds) → Fit (get_or (kind ∷ kinds) k (Plain 0)) (get_or (v ∷ ws) k Nothing)
    go zero h = fit
    go (suc k) h = fitted.each k (omega arith)

fit_values : (layout : List Kind) (fields : List (List ℕ)) (vs : List Value) (rest : List (List ℕ)) → values_of layout fields ≡ Some (vs, rest) → Fitted layout vs
unfolding values_of value_field
fit_values [] fields vs rest e = rw (← (same-read e).0) (record { size = refl; each = λ k h. absurd (omega arith) })
fit_values (kind ∷ kinds) [] vs rest e = absurd (no_value vs rest e)
fit_values (kind ∷ kinds) (field ∷ fields) vs rest e = first (λ ws more p. fit_values kinds fields ws more p) (field_value kind field) refl e
  where
    others : ((ws : List Value) (more : List (List ℕ)) → values_of kinds fields ≡ Some (ws, more) → Fitted kinds ws) → (v : Value) → Fit kind v → (r : Read (List Value)) → values_of kinds fields ≡ r → in_front (v ∷ []) r ≡ Some (vs, rest) → Fitted (kind ∷ kinds) vs
    others after v fit (Some (ws, more)) p f = fit_next kind kinds v fit ws vs more rest (after ws more p) f
    others after v fit None p f = absurd (no_value vs rest f)

    first : ((ws : List Value) (more : List (List ℕ)) → values_of kinds fields ≡ Some (ws, more) → Fitted kinds ws) → (f : Option Value) → field_value kind field ≡ f → and_then (value_then f fields) (λ v after. in_front (v ∷ []) (values_of kinds after)) ≡ Some (vs, rest) → Fitted (kind ∷ kinds) vs
    first after (Some v) p f = others after v (unfold Fits in fit_field kind field v p) (values_of kinds fields) refl f
    first after None p f = absurd (no_value vs rest f)

module _ (layout : List Kind) (vs : List Value) where
  only : (r : Read (List Value)) → ((ws : List Value) (rest : List (List ℕ)) → r ≡ Some (ws, rest) → Fitted layout ws) → alone r ≡ Some vs → Fitted layout vs
  only (Some (ws, [])) fitted e = let same : ws ≡ vs = cc in rw (← same) (fitted ws [] refl)
  only (Some (ws, field ∷ more)) fitted e = absurd cc
  only None fitted e = absurd cc

  -- the values of a line fit its layout
  pub fit_line : (tag line : List ℕ) → line_of tag layout line ≡ Some vs → Fitted layout vs
  unfolding line_of
  fit_line tag line = go (behind_tag tag (fields_of line))
    where
      go : (t : Option (List (List ℕ))) → values_alone layout t ≡ Some vs → Fitted layout vs
      go (Some fields) e = only (values_of layout fields) (λ ws rest. fit_values layout fields ws rest) e
      go None e = absurd cc

-- a number of a plain field is at most its limit
pub plain_within : (limit : ℕ) (v : Value) → Fit (Plain limit) v → magnitude v ≤ limit
plain_within limit Nothing fit = absurd fit
plain_within limit (Number n) fit = fit
plain_within limit (Below n) fit = absurd fit

-- so is one where there may be none
pub optional_within : (limit : ℕ) (v : Value) → Fit (OrNone limit) v → magnitude v ≤ limit
optional_within limit Nothing fit = omega arith
optional_within limit (Number n) fit = fit
optional_within limit (Below n) fit = absurd fit
