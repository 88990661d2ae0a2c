-- The number of the whole field is that of the digits passed followed by the rest.
use mathlib.Core.Bool.{Bool, true, false, cond, ◌&&◌, and-false, and-eq-true_iff}
use mathlib.Core.List.{List, [], ◌∷◌}
use mathlib.Core.Path.{◌≡◌, refl, sym, ◌∙◌, ap}
use Prim.Native.Nat.{ℕ, suc, ◌+◌, ◌-◌, ◌*◌, ◌≤◌, ◌<◌}
use native.Mathlib.Nat.{le_refl, le_trans}
use native.Mathlib.Numerals.{add-one}
use native.Mathlib.Omega.{arith}
use borrow.Author.Tests.{lt-leb, le-leb, leb-true, leb-false}
use lib.Dec.{leb}
use lib.ListN.{length, get_or, drop, drop_of_length-le}
use lib.Seq.{drop-cons}
use Rattle.std.specs.List.{list_all}
use Rattle.std.specs.Prelude.{Some, None}
use Rattle.table_text.specs.Decimal.{is_digit, spelled, digits_number, with_digit}
use Rattle.table_text.proofs.Decimals.{taken}
use Rattle.table_text.proofs.decimal.read_digits.Goals as goal

le-spelled : (v : ℕ) (bs : List ℕ) → v ≤ spelled v bs
unfolding spelled
le-spelled v [] = le_refl v
le-spelled v (b ∷ bs) = le_trans (omega arith) (le-spelled (v * 10 + (b - 48)) bs)

left : (t : Bool) (x : ℕ) → cond t (Some x) None ≡ None → t ≡ false
left true x e = absurd cc
left false x e = refl

too_large : (digit digits : Bool) (limit w s : ℕ) → w ≤ s → (digit && leb w limit) ≡ false → (digit && digits && leb s limit) ≡ false
too_large true digits limit w s h e = ap (λ (t : Bool). digits && t) (lt-leb s limit (omega (arith, leb-false w limit e))) ∙ and-false digits
too_large false digits limit w s h e = refl

module _ (limit v : ℕ) (field : List ℕ) (i : ℕ) (inside : i < length field) where
  stops : with_digit limit v (get_or field i 0) ≡ None → digits_number limit v (drop i field) ≡ None
  unfolding digits_number spelled
  stops e =
      let b = get_or field i 0 in
      let w : ℕ = v * 10 + (b - 48) in
      let rest = drop (suc i) field in
      rw (drop-cons field i 0 inside, too_large (is_digit b) (list_all is_digit rest) limit w (spelled w rest) (le-spelled w rest) (left _ _ e))

  goes_on : (w : ℕ) → with_digit limit v (get_or field i 0) ≡ Some w → (digits_number limit v (drop i field) ≡ digits_number limit w (drop (i + 1) field)) × (w ≤ limit)
  unfolding digits_number spelled
  goes_on w e =
      let b = get_or field i 0 in
      let x : ℕ = v * 10 + (b - 48) in
      let t = taken (is_digit b && leb x limit) x w e in
      let both = (and-eq-true_iff (is_digit b) (leb x limit)).0 t.0 in
      (rw (drop-cons field i 0 inside, add-one, both.0, ← t.1), omega (arith, leb-true x limit both.1, t.1))

ends : (limit v : ℕ) (field : List ℕ) (i : ℕ) → v ≤ limit → length field ≤ i → Some v ≡ digits_number limit v (drop i field)
unfolding digits_number spelled
ends limit v field i h e = simp (drop_of_length-le field e, le-leb v limit h)

pub returns-in_err-value : goal.returns-in_err-value
returns-in_err-value c = c.from_residual.ensures ∙ sym (c.loop-byte.invariant.2 ∙ stops _ _ _ _ c.loop-byte-test.true (sym c.in_err-value.ensures))

pub loop-byte-preserved : goal.loop-byte-preserved
loop-byte-preserved c =
    let next = goes_on _ _ _ _ c.loop-byte-test.true _ (sym c.in_ok-value.ensures) in
    (omega arith, next.1, c.loop-byte.invariant.2 ∙ next.0)

pub returns : goal.returns
returns c = ends _ _ _ _ c.loop-byte.invariant.1 c.loop-byte-test.false ∙ sym c.loop-byte.invariant.2
