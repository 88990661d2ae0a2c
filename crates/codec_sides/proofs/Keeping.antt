-- Laws of the fates of some records.
use mathlib.Core.Bool.{Bool, true, false, cond, ◌||◌}
use mathlib.Core.List.{List, [], ◌∷◌}
use mathlib.Core.Path.{◌≡◌, refl, sym, ◌∙◌, ap₂, fun_ext}
use Prim.Native.Nat.{ℕ, ◌<◌}
use native.Mathlib.Decide.{ℕ_discrete}
use borrow.Author.Tests.{eq-eqb, ne_eqb}
use lib.Dec.{eqb}
use lib.ListN.{length, get_or, set, length-set}
use lib.Seq.{get_or-set_same, get_or-set_other}
use Rattle.std.proofs.lemmas.List.{get_or_default}
use Rattle.lists.specs.Tabulate.{tabulate}
use Rattle.lists.proofs.Tabulate.{length-tabulate, get_d_tabulate, tabulate_get_d}
use Rattle.caller.specs.Fates.{undecided_number, first_fate}
use Rattle.lists.specs.Member.{is_in}
use Rattle.codec_sides.specs.Side.{given_fate}

-- a fate that has fallen falls no second time
fallen : (fate own : ℕ) → first_fate fate (first_fate fate own) ≡ first_fate fate own
fallen fate own = by (eqb own undecided_number) refl
  where
    same : (test : Bool) → cond test fate fate ≡ fate
    same true = refl
    same false = refl

    by : (test : Bool) → eqb own undecided_number ≡ test → first_fate fate (cond test fate own) ≡ cond test fate own
    by true e = same (eqb fate undecided_number)
    by false e = rw e

module _ (fate : ℕ) where
  pub given_fate-none : (fates : List ℕ) → given_fate fate [] fates ≡ fates
  unfolding given_fate is_in
  given_fate-none fates = tabulate_get_d fates undecided_number

  -- one record more
  pub given_fate_more : (r : ℕ) (records fates : List ℕ) → r < length fates → given_fate fate (r ∷ records) fates ≡ given_fate fate records (set fates r (first_fate fate (get_or fates r undecided_number)))
  unfolding given_fate is_in
  given_fate_more r records fates h = ap₂ (tabulate {A = ℕ}) (fun_ext (λ q. at q (ℕ_discrete q r))) (sym (length-set fates r own))
    where
      own : ℕ
      own = first_fate fate (get_or fates r undecided_number)

      same : (test : Bool) (x y : ℕ) → x ≡ y → y ≡ cond test x y
      same true x y e = sym e
      same false x y e = refl

      at : (q : ℕ) → Dec (q ≡ r)
          → cond (eqb q r || is_in q records) (first_fate fate (get_or fates q undecided_number)) (get_or fates q undecided_number) ≡ cond (is_in q records) (first_fate fate (get_or (set fates r own) q undecided_number)) (get_or (set fates r own) q undecided_number)
      at q (yes e) = rw (eq-eqb q r e, e, get_or-set_same fates r own undecided_number h) (same (is_in r records) (first_fate fate own) own (fallen fate (get_or fates r undecided_number)))
      at q (no differ) = rw (ne_eqb q r differ, get_or-set_other fates r q own undecided_number differ)

  pub length-given_fate : (records fates : List ℕ) → length (given_fate fate records fates) ≡ length fates
  unfolding given_fate
  length-given_fate records fates = length-tabulate (λ r. cond (is_in r records) (first_fate fate (get_or fates r undecided_number)) (get_or fates r undecided_number)) (length fates)

  pub get_d-given_fate : (records fates : List ℕ) (r d : ℕ) → r < length fates → get_or (given_fate fate records fates) r d ≡ cond (is_in r records) (first_fate fate (get_or fates r d)) (get_or fates r d)
  unfolding given_fate
  get_d-given_fate records fates r d h =
      get_d_tabulate (λ q. cond (is_in q records) (first_fate fate (get_or fates q undecided_number)) (get_or fates q undecided_number)) (length fates) r d h ∙ rw (get_or_default fates r undecided_number d h)
