-- Laws of the two sides.
use mathlib.Core.Bool.{Bool, true, false, not, false≢true}
use mathlib.Core.List.{List, [], ◌∷◌, ◌++◌}
use mathlib.Core.Logic.{◌⊎◌, inl, inr}
use mathlib.Core.Path.{◌≡◌, refl, sym, ◌∙◌, ap}
use Prim.Native.Nat.{ℕ, zero, suc, ◌+◌, ◌*◌, ◌-◌, ◌≤◌, ◌<◌}
use native.Mathlib.Nat.{zero-add}
use native.Mathlib.Omega.{arith}
use borrow.Author.Tests.{eqb-true}
use lib.ListN.{length, get_or, length-append}
use Rattle.std.proofs.lemmas.Bool.{and_parts, false_from_ne_true}
use Rattle.std.specs.Prelude.{Some, None, if◌then◌else◌}
use Rattle.lists.specs.Count.{count_below}
use Rattle.lists.specs.Numbers.{numbers_from}
use Rattle.lists.proofs.Count.{count_into, count-both}
use Rattle.lists.proofs.Numbers.{numbers_at, numbers_yes, numbers_after, length_numbers}
use Rattle.codec_pairing.specs.Pairing.{is_namesake, namesakes_from, namesakes, remains, is_pair, is_first, is_entered, opens_pair, earlier_records, later_of}

pub one_of_two : (a b k x : ℕ) → k < 2 → get_or (a ∷ b ∷ []) k 0 ≡ x → (a ≡ x) ⊎ (b ≡ x)
one_of_two a b zero x h e = inl e
one_of_two a b (suc zero) x h e = inr e
one_of_two a b (suc (suc k)) x h e = absurd (omega arith)

-- a pair is two records
pub pair_two : (verdicts : List Bool) (records : List ℕ) → is_pair verdicts records ≡ true → records ≡ get_or records 0 0 ∷ get_or records 1 0 ∷ []
unfolding is_pair
pair_two verdicts [] pair = absurd (false≢true pair)
pair_two verdicts (one ∷ []) pair = absurd (false≢true pair)
pair_two verdicts (one ∷ two ∷ []) pair = refl
pair_two verdicts (one ∷ two ∷ three ∷ more) pair = absurd (false≢true pair)

first_is : (i : ℕ) (records : List ℕ) → is_first i records ≡ true → get_or records 0 0 ≡ i
unfolding is_first
first_is i [] first = absurd (false≢true first)
first_is i (one ∷ more) first = eqb-true one i first

module _ (flags names : List ℕ) (verdicts : List Bool) where
  -- the earlier record of a pair remains, and has no namesake but the later
  pub opens_entered : (i : ℕ) → opens_pair flags names verdicts i ≡ true → is_entered flags names verdicts i ≡ true
  unfolding opens_pair
  opens_entered i opens = (and_parts _ _ opens).0

  pub opens_namesakes : (i : ℕ) → opens_pair flags names verdicts i ≡ true → namesakes flags names i ≡ i ∷ later_of flags names i ∷ []
  unfolding opens_pair is_entered later_of
  opens_namesakes i opens =
      let t = and_parts _ _ opens in
      rw (first_is i (namesakes flags names i) t.1) at (pair_two verdicts (namesakes flags names i) (and_parts (remains (get_or flags i 0)) _ t.0).1)

  -- a record of the list has the name, and remains
  pub namesakes_at : (i k : ℕ) → k < length (namesakes flags names i) → let x = get_or (namesakes flags names i) k 0 in (x < length flags) × (get_or names x 0 ≡ get_or names i 0) × (remains (get_or flags x 0) ≡ true)
  unfolding namesakes_from is_namesake
  namesakes_at i k h =
      let t = numbers_at (is_namesake flags names (get_or names i 0)) 0 (length flags - 0) k h in
      let u = and_parts _ _ t.2 in
      (omega arith, eqb-true _ _ u.0, u.1)

  -- the later record of a pair comes after the earlier
  pub later-after : (i : ℕ) → opens_pair flags names verdicts i ≡ true → i < later_of flags names i
  unfolding namesakes_from
  later-after i opens =
      let rest = numbers_after (is_namesake flags names (get_or names i 0)) 0 (length flags - 0) i (later_of flags names i ∷ []) (opens_namesakes i opens) in
      let t = numbers_at (is_namesake flags names (get_or names i 0)) (suc i) (0 + (length flags - 0) - suc i) 0 (rw (← rest) (omega arith)) in
      rw (← rest) at t.0

  -- and has its name
  pub later_namesake : (i : ℕ) → opens_pair flags names verdicts i ≡ true → let later = later_of flags names i in (later < length flags) × (get_or names later 0 ≡ get_or names i 0) × (remains (get_or flags later 0) ≡ true)
  later_namesake i opens =
      let two = opens_namesakes i opens in
      rw two at (namesakes_at i 1 (rw two (omega arith)))

  pub later_opens_not : (i : ℕ) → opens_pair flags names verdicts i ≡ true → opens_pair flags names verdicts (later_of flags names i) ≡ false
  later_opens_not i opens =
      false_from_ne_true _ (λ also.
      let same = ap (λ (name : ℕ). namesakes_from flags names name 0) (later_namesake i opens).1 in
      let heads = sym (opens_namesakes (later_of flags names i) also) ∙ same ∙ opens_namesakes i opens in
      let later-is-i : later_of flags names i ≡ i = cc in
      omega (arith, later-after i opens))

  -- at most half of the records are the earlier of a pair
  pub earlier_half : 2 * length (earlier_records flags names verdicts) ≤ length flags
  unfolding earlier_records count_below
  earlier_half =
      let opens = opens_pair flags names verdicts in
      let n = length flags in
      let fewer =
      count_into opens (λ k. not (opens k)) (later_of flags names) n n
      (λ i h yes-i. ((later_namesake i yes-i).0, ap not (later_opens_not i yes-i)))
      (λ i j h k opens-i opens-j same.
      let name : get_or names i 0 ≡ get_or names j 0 = sym (later_namesake i opens-i).1 ∙ ap (λ (x : ℕ). get_or names x 0) same ∙ (later_namesake j opens-j).1 in
      let heads = sym (opens_namesakes i opens-i) ∙ ap (λ (x : ℕ). namesakes_from flags names x 0) name ∙ opens_namesakes j opens-j in
      cc) in
      let counted : length (numbers_from opens 0 n) ≡ count_below opens n = simp zero-add at (length_numbers opens 0 n) in
      omega (arith, count-both opens n)

  -- also of those that were passed and are still to come
  pub passed_half : (done more : List ℕ) → done ++ more ≡ earlier_records flags names verdicts → 2 * (length done + length more) ≤ length flags
  passed_half done more e = omega (arith, earlier_half, length-append done more, ap length e)

  -- so that with a pair still to come fewer have been passed
  pub passed_fewer : (done : List ℕ) (i : ℕ) → i < length flags → opens_pair flags names verdicts i ≡ true
      → done ++ numbers_from (opens_pair flags names verdicts) i (length flags - i) ≡ earlier_records flags names verdicts
      → 2 * (length done + 1) ≤ length flags
  passed_fewer done i h opens e =
      let more = numbers_yes (opens_pair flags names verdicts) (length flags) i h opens in
      omega (arith, passed_half done _ e, ap length more)

-- what the answer of `later_of` tells
pub opens_of_some : (opens : Bool) (later : ℕ) {r : ℕ} → Some r ≡ if opens then Some later else None → (opens ≡ true) × (r ≡ later)
opens_of_some true later e = (refl, cc)
opens_of_some false later e = cc

pub opens_not_of_none : (opens : Bool) (later : ℕ) → None ≡ if opens then Some later else None → opens ≡ false
opens_not_of_none true later e = cc
opens_not_of_none false later e = refl
