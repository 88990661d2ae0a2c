-- The remaining records of a name, read off a search for them.
use mathlib.Core.Bool.{Bool, true, false, not, ◌||◌, and-true, false≢true}
use mathlib.Core.List.{List, [], ◌∷◌}
use mathlib.Core.Logic.{⊎_elim}
use mathlib.Core.Path.{◌≡◌, refl, sym, ◌∙◌, ap}
use Prim.Native.Nat.{ℕ, zero, suc, zero-le, ◌+◌, ◌-◌, ◌≤◌, ◌<◌}
use native.Mathlib.Nat.{add-zero, zero-add, suc-add}
use native.Mathlib.Omega.{arith}
use borrow.Author.Tests.{eq-eqb, eqb-true, not-true}
use lib.Dec.{eqb}
use lib.ListN.{length, get_or, take, drop}
use Rattle.std.proofs.Common.{get_or-take, get_or-drop, length-take, length-drop}
use Rattle.std.proofs.lemmas.List.Folds.{list_any_at}
use Rattle.std.specs.Prelude.{Option, None, Some, IfNone, IfSome}
use Rattle.std.specs.Option as option
use Rattle.std.proofs.lemmas.Bool.{and_parts, false_from_ne_true}
use Rattle.lists.specs.Numbers.{numbers_from}
use Rattle.lists.proofs.Numbers.{numbers_first, numbers_yes, numbers_no, numbers_end, numbers_has}
use Rattle.raw_bam.specs.Flags.{paired_flag, has_flag}
use Rattle.codec_pairing.specs.Pairing.{not_primary, remains, is_namesake, namesakes_from, namesakes, is_pair, is_first, is_entered, fate_of, opens_pair, later_of}
use Rattle.codec_pairing.specs.Search.{has_name, is_some, has_namesake, has_namesake_between}
use Rattle.codec_pairing.proofs.Sides.{one_of_two, opens_namesakes, later-after}

module _ (flags names : List ℕ) (name i : ℕ) where
  -- a record of the name that remains comes before those after it
  pub found_here : i < length flags → is_namesake flags names name i ≡ true → namesakes_from flags names name i ≡ i ∷ namesakes_from flags names name (i + 1)
  unfolding namesakes_from
  found_here h found = numbers_yes (is_namesake flags names name) (length flags) i h found

  -- another is passed over
  pub passed_here : i < length flags → is_namesake flags names name i ≡ false → namesakes_from flags names name i ≡ namesakes_from flags names name (i + 1)
  unfolding namesakes_from
  passed_here h fails = numbers_no (is_namesake flags names name) (length flags) i h fails

  pub none_behind : length flags ≤ i → namesakes_from flags names name i ≡ []
  unfolding namesakes_from
  none_behind h = numbers_end (is_namesake flags names name) (length flags) i h

-- numbers of which none meets a test are passed over
none_of : (test : ℕ → Bool) (count from more : ℕ) → ((k : ℕ) → from ≤ k → k < from + count → test k ≡ false) → numbers_from test from (count + more) ≡ numbers_from test (from + count) more
none_of test zero from more none = rw (zero-add, add-zero)
none_of test (suc count) from more none =
    let place : suc from + count ≡ from + suc count = omega arith in
    rw (suc-add, ← place, numbers_first, none from (omega arith) (omega arith)) (none_of test count (suc from) more (λ k h below. none k (omega arith) (omega arith)))

module _ (flags names : List ℕ) (name : ℕ) where
  -- where none of some records has the name, each of them is passed over
  not-namesake : (some : List ℕ) → has_name some name ≡ false → (k place : ℕ) → k < length some → get_or some k 0 ≡ get_or names place 0 → is_namesake flags names name place ≡ false
  unfolding is_namesake
  not-namesake some none k place h same =
      let other : eqb (get_or names place 0) name ≡ false = false_from_ne_true _ (λ e. false≢true (sym none ∙ list_any_at (λ other. eqb other name) some k 0 h (rw same e))) in
      rw other

  -- no record of the name stands before record i
  pub none_before : (i : ℕ) → i ≤ length flags → length names ≡ length flags → has_name (take i names) name ≡ false → namesakes_from flags names name 0 ≡ namesakes_from flags names name i
  unfolding namesakes_from
  none_before i h alike none =
      let all : length flags - 0 ≡ i + (length flags - i) = omega arith in
      rw all (rw zero-add at (none_of (is_namesake flags names name) i 0 (length flags - i) (λ k _ below. not-namesake (take i names) none k k (simp length-take (omega arith)) (get_or-take i names k 0 (omega arith)))))

  -- nor between two records
  pub none_named_between : (from to : ℕ) → from ≤ to → to ≤ length flags → length names ≡ length flags → has_name (take (to - from) (drop from names)) name ≡ false → namesakes_from flags names name from ≡ namesakes_from flags names name to
  unfolding namesakes_from
  none_named_between from to order h alike none =
      let all : length flags - from ≡ (to - from) + (length flags - to) = omega arith in
      let end : from + (to - from) ≡ to = omega arith in
      rw all (rw end at (none_of (is_namesake flags names name) (to - from) from (length flags - to) (λ k after below.
      let place : from + (k - from) ≡ k = omega arith in
      not-namesake (take (to - from) (drop from names)) none (k - from) k (simp (length-take, length-drop) (omega arith))
      (get_or-take (to - from) (drop from names) (k - from) 0 (omega arith) ∙ get_or-drop from names (k - from) 0 ∙ ap (λ (j : ℕ). get_or names j 0) place))))

  -- nor from record i on
  none_after : (i : ℕ) → i ≤ length flags → length names ≡ length flags → has_name (take (length names - i) (drop i names)) name ≡ false → namesakes_from flags names name i ≡ []
  unfolding namesakes_from numbers_from
  none_after i h alike none =
      let all : length flags - i ≡ (length flags - i) + 0 = omega arith in
      rw all (none_of (is_namesake flags names name) (length flags - i) i 0 (λ k from below.
      let place : i + (k - i) ≡ k = omega arith in
      not-namesake (take (length names - i) (drop i names)) none (k - i) k (simp (length-take, length-drop) (omega arith))
      (get_or-take (length names - i) (drop i names) (k - i) 0 (omega arith) ∙ get_or-drop i names (k - i) 0 ∙ ap (λ (j : ℕ). get_or names j 0) place)))

-- a search for a record finds whether there is one
pub some_found : (found : Option ℕ) (records : List ℕ) (rest : ℕ → List ℕ) → IfNone found (records ≡ []) → IfSome found (λ r. records ≡ r ∷ rest r) → option.is_some found ≡ is_some records
unfolding is_some
some_found None records rest none next = rw none
some_found (Some r) records rest none next = rw next

-- where none has the name, there is none
pub none_named : (flags names : List ℕ) (name i : ℕ) → i ≤ length flags → length names ≡ length flags → has_name (take (length names - i) (drop i names)) name ≡ false → has_namesake flags names name i ≡ false
unfolding is_some
none_named flags names name i h alike none = rw (none_after flags names name i h alike none)

-- the one record of a name is no pair
pub alone : (verdicts : List Bool) (one : ℕ) → is_pair verdicts (one ∷ []) ≡ false
unfolding is_pair
alone verdicts one = refl

-- a search that finds none
pub none_more : (more : List ℕ) → is_some more ≡ false → more ≡ []
unfolding is_some
none_more [] none = refl
none_more (three ∷ more) none = absurd (false≢true (sym none))

module _ (flags names : List ℕ) (name from to : ℕ) where
  -- no record of the name stands between
  pub none_between : from ≤ to → to ≤ length flags → has_namesake_between flags names name from to ≡ false → namesakes_from flags names name from ≡ namesakes_from flags names name to
  unfolding has_namesake_between namesakes_from
  none_between h within none =
      let all : length flags - from ≡ (to - from) + (length flags - to) = omega arith in
      let place : from + (to - from) ≡ to = omega arith in
      let differs = λ (k : ℕ) (after : from ≤ k) (before : k < from + (to - from)).
      false_from_ne_true _ (λ found.
      let has = numbers_has (is_namesake flags names name) from (to - from) k after before found in
      omega (arith, has.1, ap length (none_more _ none))) in
      rw all (rw place at (none_of (is_namesake flags names name) (to - from) from (length flags - to) differs))

  -- one record more is asked
  pub asked_more : (k : ℕ) → k < to → has_namesake_between flags names name k to ≡ is_namesake flags names name k || has_namesake_between flags names name (k + 1) to
  unfolding has_namesake_between is_some
  asked_more k h = by_test (is_namesake flags names name k) refl
    where
      by_test : (b : Bool) → is_namesake flags names name k ≡ b → is_some (numbers_from (is_namesake flags names name) k (to - k)) ≡ b || is_some (numbers_from (is_namesake flags names name) (k + 1) (to - (k + 1)))
      by_test true e = rw (numbers_yes (is_namesake flags names name) to k h e)
      by_test false e = rw (numbers_no (is_namesake flags names name) to k h e)

  pub asked-all : (k : ℕ) → to ≤ k → has_namesake_between flags names name k to ≡ false
  unfolding has_namesake_between is_some
  asked-all k h = rw (numbers_end (is_namesake flags names name) to k h)

-- a third record of the name
pub third_found : (verdicts : List Bool) (one two : ℕ) (more : List ℕ) → is_some more ≡ true → is_pair verdicts (one ∷ two ∷ more) ≡ false
unfolding is_some is_pair
third_found verdicts one two [] some = absurd (false≢true some)
third_found verdicts one two (three ∷ more) some = refl

-- two are a pair by the earlier one's verdict, where there is no third
pub none_found : (flags names : List ℕ) (verdicts : List Bool) (name one two : ℕ) → has_namesake flags names name (two + 1) ≡ false → is_pair verdicts (one ∷ two ∷ namesakes_from flags names name (two + 1)) ≡ get_or verdicts one false
unfolding is_pair
none_found flags names verdicts name one two none = rw (none_more _ none)

module _ (flags names : List ℕ) (verdicts : List Bool) (i : ℕ) where
  -- a record that does not remain opens nothing
  pub opens_not_aside : remains (get_or flags i 0) ≡ false → opens_pair flags names verdicts i ≡ false
  unfolding opens_pair is_entered
  opens_not_aside aside = rw aside

  -- nor does one that has a namesake before it
  pub opens_not : (r : ℕ) → r < i → is_namesake flags names (get_or names i 0) r ≡ true → i < length flags → opens_pair flags names verdicts i ≡ false
  unfolding namesakes_from
  opens_not r before found h =
      false_from_ne_true _ (λ opens.
      let two = opens_namesakes flags names verdicts i opens in
      let has = numbers_has (is_namesake flags names (get_or names i 0)) 0 (length flags - 0) r zero-le (omega arith) found in
      let at : get_or (i ∷ later_of flags names i ∷ []) has.0 0 ≡ r = rw two at has.2 in
      let within : has.0 < 2 = rw two at has.1 in
      let after = later-after flags names verdicts i opens in
      ⊎_elim (λ e. omega arith) (λ e. omega arith) (one_of_two i (later_of flags names i) has.0 r within at))

  -- one that remains and has none before it is the first of its name
  pub first_of : i < length flags → remains (get_or flags i 0) ≡ true → namesakes flags names i ≡ namesakes_from flags names (get_or names i 0) i → namesakes flags names i ≡ i ∷ namesakes_from flags names (get_or names i 0) (i + 1)
  unfolding is_namesake
  first_of h stays none = none ∙ found_here flags names (get_or names i 0) i h (rw (eq-eqb (get_or names i 0) (get_or names i 0) refl) stays)

  -- the records of a name that remain have one fate
  pub same_fate : (k : ℕ) → is_namesake flags names (get_or names i 0) k ≡ true → remains (get_or flags i 0) ≡ true → fate_of flags names verdicts k ≡ fate_of flags names verdicts i
  unfolding is_namesake fate_of is_entered
  same_fate k namesake stays =
      let both = and_parts (eqb (get_or names k 0) (get_or names i 0)) (remains (get_or flags k 0)) namesake in
      let name = eqb-true (get_or names k 0) (get_or names i 0) both.0 in
      let own = and_parts (has_flag (get_or flags i 0) paired_flag) (not (not_primary (get_or flags i 0))) stays in
      let other = and_parts (has_flag (get_or flags k 0) paired_flag) (not (not_primary (get_or flags k 0))) both.1 in
      rw (name, own.0, other.0, not-true (not_primary (get_or flags i 0)) own.1, not-true (not_primary (get_or flags k 0)) other.1)

  -- the first of its name opens what pair there is
  pub opens_where_pair : remains (get_or flags i 0) ≡ true → namesakes flags names i ≡ i ∷ namesakes_from flags names (get_or names i 0) (i + 1) → opens_pair flags names verdicts i ≡ is_pair verdicts (namesakes flags names i)
  unfolding opens_pair is_entered is_first
  opens_where_pair stays first = simp (stays, first, eq-eqb i i refl, and-true)
