-- Laws of joining neighbours.
use mathlib.Core.Bool.{Bool, true, false, cond, ◌&&◌}
use mathlib.Core.List.{List, [], ◌∷◌, ◌++◌, map, reverse, reverse-cons, append_assoc}
use mathlib.Core.Path.{◌≡◌, refl, sym, ◌∙◌, ap}
use Prim.Native.Nat.{ℕ, zero, suc, ◌+◌, ◌-◌, ◌≤◌, ◌<◌, zero-le, suc-le-suc}
use native.Mathlib.Nat.{le_refl}
use native.Mathlib.Omega.{arith}
use borrow.Author.Tests.{eqb-true, eqb-false, eq-eqb, ne_eqb}
use lib.Dec.{eqb}
use lib.ListN.{length, get_or, set, drop, length-map, length-reverse, length-set, length-append}
use Rattle.std.specs.List.{list_all}
use Rattle.std.proofs.lemmas.Bool.{and_parts, and_from}
use Rattle.std.proofs.lemmas.List.{get_or_append_left, nil_from_length}
use Rattle.std.proofs.lemmas.List.Sums.{get_or-le-sum_by}
use Rattle.lists.specs.Total.{total}
use Rattle.lists.specs.Written.{written}
use Rattle.lists.proofs.Total.{total_is_sum_by}
use Rattle.lists.proofs.Written.{set-written, written_more}
use Rattle.raw_bam.specs.Cigar.{op_length, op_code}
use Rattle.raw_bam.specs.Simplified.{kind_of, simple_entry, joined_word, prepend_by, joined_by, joined, simplified}

-- a kind is no larger than the code that it is made of
pub kind_le : (code : ℕ) → kind_of code ≤ code
unfolding kind_of
kind_le code = by_code (eqb code 4) (eqb code 5) (eqb code 7) (eqb code 8)
  where
    by_code : (s h e x : Bool) → cond s 0 (cond h 0 (cond e 0 (cond x 0 code))) ≤ code
    by_code true h e x = zero-le
    by_code false true e x = zero-le
    by_code false false true x = zero-le
    by_code false false false true = zero-le
    by_code false false false false = le_refl code

pub code_join : (x y : ℕ) → op_code (joined_word x y) ≡ op_code x
code_join x y = omega arith

pub length_join : (x y : ℕ) → op_length (joined_word x y) ≡ op_length x + op_length y
length_join x y = omega arith

join_assoc : (x y z : ℕ) → joined_word x (joined_word y z) ≡ joined_word (joined_word x y) z
join_assoc x y z = omega arith

join_comm : (x y : ℕ) → op_code x ≡ op_code y → joined_word x y ≡ joined_word y x
join_comm x y e = omega arith

module _ (joins : ℕ → ℕ → Bool) where
  -- neighbours join
  abbrev pub joining : ℕ → ℕ → Bool
  joining x y = joins (op_code x) (op_code y)

  -- joining keeps a sum, where what two entries join to counts as much as both
  pub total-joined_by : (f : ℕ → ℕ) → ((x y : ℕ) → joining x y ≡ true → f (joined_word x y) ≡ f x + f y) → (xs : List ℕ) → total f (joined_by joins xs) ≡ total f xs
  unfolding joined_by prepend_by total
  total-joined_by f adds [] = refl
  total-joined_by f adds (x ∷ xs) = put (joined_by joins xs) ∙ ap (λ (n : ℕ). f x + n) (total-joined_by f adds xs)
    where
      by_kind : (y : ℕ) (ys : List ℕ) (xy : Bool) → joining x y ≡ xy → total f (cond xy (joined_word x y ∷ ys) (x ∷ y ∷ ys)) ≡ f x + (f y + total f ys)
      by_kind y ys true e = omega (arith, adds x y e)
      by_kind y ys false e = refl

      put : (ys : List ℕ) → total f (prepend_by joins x ys) ≡ f x + total f ys
      put [] = refl
      put (y ∷ ys) = by_kind y ys (joining x y) refl

  -- a joined list is no longer than the list
  pub length-joined_by : (xs : List ℕ) → length (joined_by joins xs) ≤ length xs
  unfolding joined_by prepend_by
  length-joined_by [] = zero-le
  length-joined_by (x ∷ xs) = put (joined_by joins xs) (length-joined_by xs)
    where
      by_kind : (y : ℕ) (ys : List ℕ) (xy : Bool) → length (y ∷ ys) ≤ length xs → length (cond xy (joined_word x y ∷ ys) (x ∷ y ∷ ys)) ≤ suc (length xs)
      by_kind y ys true h = omega arith
      by_kind y ys false h = omega arith

      put : (ys : List ℕ) → length ys ≤ length xs → length (prepend_by joins x ys) ≤ suc (length xs)
      put [] h = suc-le-suc zero-le
      put (y ∷ ys) h = by_kind y ys (joining x y) h

  -- all meet a test that what two entries join to meets where both do
  pub list_all-joined_by : (test : ℕ → Bool) → ((x y : ℕ) → joining x y ≡ true → test x ≡ true → test y ≡ true → test (joined_word x y) ≡ true)
      → (xs : List ℕ) → list_all test xs ≡ true → list_all test (joined_by joins xs) ≡ true
  unfolding joined_by prepend_by
  list_all-joined_by test keeps [] h = refl
  list_all-joined_by test keeps (x ∷ xs) h =
      let both = and_parts (test x) (list_all test xs) h in
      put (joined_by joins xs) both.0 (list_all-joined_by test keeps xs both.1)
    where
      by_kind : (y : ℕ) (ys : List ℕ) (xy : Bool) → joining x y ≡ xy → test x ≡ true → test y && list_all test ys ≡ true → list_all test (cond xy (joined_word x y ∷ ys) (x ∷ y ∷ ys)) ≡ true
      by_kind y ys true e p q =
          let both = and_parts (test y) (list_all test ys) q in
          and_from (test (joined_word x y)) (list_all test ys) (keeps x y e p both.0) both.1
      by_kind y ys false e p q = and_from (test x) (test y && list_all test ys) p q

      put : (ys : List ℕ) → test x ≡ true → list_all test ys ≡ true → list_all test (prepend_by joins x ys) ≡ true
      put [] p q = and_from (test x) true p refl
      put (y ∷ ys) p q = by_kind y ys (joining x y) refl p q

  -- an entry put after a list: joined with the last entry where they join
  extend : List ℕ → ℕ → List ℕ
  extend [] z = z ∷ []
  extend (y ∷ []) z = cond (joining y z) (joined_word y z ∷ []) (y ∷ z ∷ [])
  extend (y ∷ y' ∷ ys) z = y ∷ extend (y' ∷ ys) z

  extend_last : (done : List ℕ) (last z : ℕ) → extend (done ++ (last ∷ [])) z ≡ done ++ cond (joining last z) (joined_word last z ∷ []) (last ∷ z ∷ [])
  unfolding extend
  extend_last [] last z = refl
  extend_last (y ∷ []) last z = refl
  extend_last (y ∷ y' ∷ ys) last z = ap {B = List ℕ} (λ r. y ∷ r) (extend_last (y' ∷ ys) last z)

  -- where the last entry joins with it, it is joined
  extend_same : (ys : List ℕ) (n z : ℕ) → suc n ≡ length ys → joining (get_or ys n 0) z ≡ true → extend ys z ≡ set ys n (joined_word (get_or ys n 0) z)
  unfolding extend
  extend_same [] n z size e = absurd (omega arith)
  extend_same (y ∷ []) zero z size e = rw e
  extend_same (y ∷ []) (suc n) z size e = absurd (omega arith)
  extend_same (y ∷ y' ∷ ys) zero z size e = absurd (omega arith)
  extend_same (y ∷ y' ∷ ys) (suc n) z size e = ap {B = List ℕ} (λ r. y ∷ r) (extend_same (y' ∷ ys) n z (omega arith) e)

  -- and else it is put after it
  extend_other : (ys : List ℕ) (n z : ℕ) → suc n ≡ length ys → joining (get_or ys n 0) z ≡ false → extend ys z ≡ ys ++ (z ∷ [])
  unfolding extend
  extend_other [] n z size e = absurd (omega arith)
  extend_other (y ∷ []) zero z size e = rw e
  extend_other (y ∷ []) (suc n) z size e = absurd (omega arith)
  extend_other (y ∷ y' ∷ ys) zero z size e = absurd (omega arith)
  extend_other (y ∷ y' ∷ ys) (suc n) z size e = ap {B = List ℕ} (λ r. y ∷ r) (extend_other (y' ∷ ys) n z (omega arith) e)

  -- only neighbours of one kind join
  module _ (alike : (a b : ℕ) → joins a b ≡ true → a ≡ b) where
    -- to put before and to put after can be done in either order
    prepend-extend : (x : ℕ) (ys : List ℕ) (z : ℕ) → prepend_by joins x (extend ys z) ≡ extend (prepend_by joins x ys) z
    unfolding prepend_by extend
    prepend-extend x [] z = refl
    prepend-extend x (y ∷ []) z = by_kinds (joining x y) (joining y z) refl refl
      where
        -- x is of the kind of y, where they join
        through : joining x y ≡ true → joining x z ≡ joining y z
        through p = ap (λ (code : ℕ). joins code (op_code z)) (alike (op_code x) (op_code y) p)

        by_kinds : (xy yz : Bool) → joining x y ≡ xy → joining y z ≡ yz
            → prepend_by joins x (cond (joining y z) (joined_word y z ∷ []) (y ∷ z ∷ [])) ≡ extend (cond (joining x y) (joined_word x y ∷ []) (x ∷ y ∷ [])) z
        by_kinds true true p q = simp (p, q, code_join, join_assoc, through p ∙ q)
        by_kinds true false p q = simp (p, q, code_join, through p ∙ q)
        by_kinds false true p q = simp (p, q, code_join)
        by_kinds false false p q = simp (p, q)
    prepend-extend x (y ∷ y' ∷ ys) z = by_kind (joining x y)
      where
        by_kind : (xy : Bool)
            → cond xy (joined_word x y ∷ extend (y' ∷ ys) z) (x ∷ y ∷ extend (y' ∷ ys) z) ≡ extend (cond xy (joined_word x y ∷ y' ∷ ys) (x ∷ y ∷ y' ∷ ys)) z
        by_kind true = refl
        by_kind false = refl

    joined-extend : (xs : List ℕ) (z : ℕ) → joined_by joins (xs ++ (z ∷ [])) ≡ extend (joined_by joins xs) z
    unfolding joined_by prepend_by extend
    joined-extend [] z = refl
    joined-extend (x ∷ xs) z = ap (prepend_by joins x) (joined-extend xs z) ∙ prepend-extend x (joined_by joins xs) z

-- a column that holds what entries join to, and how many they are
pub record JoinedIn (joins : ℕ → ℕ → Bool) (xs old column : List ℕ) (n : ℕ) : Type 0 where
  pub count_is : n ≡ length (joined_by joins xs)
  pub column_is : column ≡ written (joined_by joins xs) old

pub joined_none : (joins : ℕ → ℕ → Bool) (old : List ℕ) → JoinedIn joins [] old old 0
unfolding joined_by
joined_none joins old = record { count_is = refl; column_is = refl }

-- one entry more
module _ (joins : ℕ → ℕ → Bool) (alike : (a b : ℕ) → joins a b ≡ true → a ≡ b) {xs old column : List ℕ} {n : ℕ} (j : JoinedIn joins xs old column n) (z : ℕ) where
  -- what the column holds last
  last_held : 0 < n → get_or column (n - 1) 0 ≡ get_or (joined_by joins xs) (n - 1) 0
  last_held some = rw j.column_is (get_or_append_left (joined_by joins xs) (drop (length (joined_by joins xs)) old) 0 (n - 1) (omega (arith, j.count_is)))

  -- which counts no more than all entries together
  pub last_counts : (f : ℕ → ℕ) → ((x y : ℕ) → joining joins x y ≡ true → f (joined_word x y) ≡ f x + f y) → 0 < n → f (get_or column (n - 1) 0) ≤ total f xs
  last_counts f adds some =
      rw (last_held some, ← total-joined_by joins f adds xs, total_is_sum_by f (joined_by joins xs))
      (get_or-le-sum_by f (joined_by joins xs) (n - 1) 0 (omega (arith, j.count_is)))

  pub joins_last : 0 < n → joining joins (get_or column (n - 1) 0) z ≡ true → JoinedIn joins (xs ++ (z ∷ [])) old (set column (n - 1) (joined_word (get_or column (n - 1) 0) z)) n
  joins_last some same =
      let own = last_held some in
      let place : n - 1 < length (joined_by joins xs) = omega (arith, j.count_is) in
      let more = joined-extend joins alike xs z ∙ extend_same joins (joined_by joins xs) (n - 1) z (omega (arith, j.count_is)) (rw own at same) in
      record {
        count_is = rw (more, length-set) j.count_is;
        column_is = rw (own, j.column_is, more) (set-written (joined_by joins xs) old (n - 1) _ place);
      }

  pub begins_entry : n < length old → (0 < n → joining joins (get_or column (n - 1) 0) z ≡ false) → JoinedIn joins (xs ++ (z ∷ [])) old (set column n z) (n + 1)
  unfolding extend
  begins_entry room differ =
      let more : joined_by joins (xs ++ (z ∷ [])) ≡ joined_by joins xs ++ (z ∷ []) = joined-extend joins alike xs z ∙ ends n refl in
      record {
        count_is = rw (more, length-append) (omega (arith, j.count_is));
        column_is = rw (j.column_is, more, j.count_is) (written_more (joined_by joins xs) old z (omega (arith, j.count_is)));
      }
    where
      ends : (k : ℕ) → n ≡ k → extend joins (joined_by joins xs) z ≡ joined_by joins xs ++ (z ∷ [])
      ends zero e = rw (nil_from_length (joined_by joins xs) (omega (arith, j.count_is)))
      ends (suc k) e =
          let place : n - 1 ≡ k = omega arith in
          extend_other joins (joined_by joins xs) k z (omega (arith, j.count_is)) (rw (last_held (omega arith), place) at (differ (omega arith)))

-- a reversed list joins to the reversed list
pub joined-reverse : (xs : List ℕ) → joined (reverse xs) ≡ reverse (joined xs)
unfolding joined_by prepend_by extend
joined-reverse [] = refl
joined-reverse (x ∷ xs) = rw (reverse-cons x xs, joined-extend eqb eqb-true, joined-reverse xs) (put (joined xs))
  where
    by_kind : (y : ℕ) (ys : List ℕ) (xy : Bool) → eqb (op_code x) (op_code y) ≡ xy
        → reverse ys ++ cond (eqb (op_code y) (op_code x)) (joined_word y x ∷ []) (y ∷ x ∷ []) ≡ reverse (cond (eqb (op_code x) (op_code y)) (joined_word x y ∷ ys) (x ∷ y ∷ ys))
    by_kind y ys true p =
        let same = eqb-true (op_code x) (op_code y) p in
        rw (p, eq-eqb (op_code y) (op_code x) (sym same), reverse-cons (joined_word x y) ys, join_comm x y same)
    by_kind y ys false p =
        rw (p, ne_eqb (op_code y) (op_code x) (λ e. eqb-false (op_code x) (op_code y) p (sym e)), reverse-cons x (y ∷ ys), reverse-cons y ys)
        (sym (append_assoc (reverse ys) (y ∷ []) (x ∷ [])))

    put : (ys : List ℕ) → extend eqb (reverse ys) x ≡ reverse (prepend_by eqb x ys)
    put [] = refl
    put (y ∷ ys) = rw (reverse-cons y ys, extend_last) (by_kind y ys (eqb (op_code x) (op_code y)) refl)

-- joining keeps the lengths
pub total-joined : (xs : List ℕ) → total op_length (joined xs) ≡ total op_length xs
total-joined xs = total-joined_by eqb op_length (λ x y e. length_join x y) xs

-- a simplified list is no longer than the list
pub length-simplified : (is_reverse : Bool) (ops : List ℕ) → length (simplified is_reverse ops) ≤ length ops
unfolding simplified
length-simplified true ops = rw (length-reverse (joined (map simple_entry ops)), ← length-map ops simple_entry) (length-joined_by eqb (map simple_entry ops))
length-simplified false ops = rw (← length-map ops simple_entry) (length-joined_by eqb (map simple_entry ops))
