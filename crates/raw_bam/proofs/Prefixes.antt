-- Laws of the prefix and of the order of two lists.
use mathlib.Core.Bool.{Bool, true, false, cond, not, ◌&&◌, ◌||◌, false≢true}
use mathlib.Core.List.{List, [], ◌∷◌, ◌++◌}
use mathlib.Core.Path.{◌≡◌, refl, sym, ◌∙◌}
use Prim.Native.Nat.{ℕ, suc}
use native.Mathlib.Omega.{arith}
use borrow.Author.Tests.{ltb-true, ltb-false, leb-true, eqb-true, eqb-false, lt-ltb, le-ltb, le-leb, eq-eqb}
use lib.Dec.{eqb, leb, ltb}
use lib.ListN.{length, get_or}
use Rattle.std.proofs.lemmas.Bool.{and_parts}
use Rattle.std.proofs.Common.{Option, Some, Ordering, Less, Equal, Greater, nat_eq}
use Rattle.std.specs.Cmp.Lexicographic.{slice_partial_cmp}
use Rattle.std.specs.List.{starts_with}
use Rattle.std.specs.Ordering.{as_partial_cmp, is_lt, is_some_and, nat_cmp, partial_ordering_then}
use Rattle.raw_bam.specs.Cigar.{op_length, op_code}
use Rattle.raw_bam.specs.Prefix.{fits_last, is_prefix, entry_before, smaller}

put : (first long front last : Bool) → first && ((long && front) && last) ≡ (long && (first && front)) && last
put true long front last = refl
put false true front last = refl
put false false front last = refl

ltb_suc : (m n : ℕ) → ltb (suc m) (suc n) ≡ ltb m n
ltb_suc m n = by (ltb m n) refl
  where
    by : (b : Bool) → ltb m n ≡ b → ltb (suc m) (suc n) ≡ b
    by true e = lt-ltb (suc m) (suc n) (omega (arith, ltb-true m n e))
    by false e = le-ltb (suc m) (suc n) (omega (arith, ltb-false m n e))

-- a list that ends with an entry is a prefix by its other entries and that one
pub prefix_split : (front : List ℕ) (last : ℕ) (ys : List ℕ)
    → is_prefix (front ++ (last ∷ [])) ys ≡ (ltb (length front) (length ys) && starts_with nat_eq ys front) && fits_last last (get_or ys (length front) 0)
unfolding is_prefix
prefix_split [] last [] = refl
prefix_split [] last (y ∷ ys) = rw (lt-ltb 0 (suc (length ys)) (omega arith))
prefix_split (x ∷ []) last [] = rw (le-ltb 1 0 (omega arith))
prefix_split (x ∷ x' ∷ front) last [] = rw (le-ltb (suc (suc (length front))) 0 (omega arith))
prefix_split (x ∷ []) last (y ∷ ys) =
    rw (ltb_suc 0 (length ys), prefix_split [] last ys) (put (eqb x y) (ltb 0 (length ys)) (starts_with nat_eq ys []) (fits_last last (get_or ys 0 0)))
prefix_split (x ∷ x' ∷ front) last (y ∷ ys) =
    rw (ltb_suc (suc (length front)) (length ys), prefix_split (x' ∷ front) last ys)
    (put (eqb x y) (ltb (suc (length front)) (length ys)) (starts_with nat_eq ys (x' ∷ front)) (fits_last last (get_or ys (suc (length front)) 0)))

-- every list is a prefix of itself
pub prefix_self : (xs : List ℕ) → is_prefix xs xs ≡ true
unfolding is_prefix
prefix_self [] = refl
prefix_self (x ∷ []) = rw (eq-eqb (op_code x) (op_code x) refl) (le-leb (op_length x) (op_length x) (omega arith))
prefix_self (x ∷ x' ∷ xs) = rw (eq-eqb x x refl) (prefix_self (x' ∷ xs))

fits_trans : (x y z : ℕ) → fits_last x y ≡ true → fits_last y z ≡ true → fits_last x z ≡ true
fits_trans x y z p q =
    let xy = and_parts (eqb (op_code x) (op_code y)) (leb (op_length x) (op_length y)) p in
    let yz = and_parts (eqb (op_code y) (op_code z)) (leb (op_length y) (op_length z)) q in
    rw (eq-eqb (op_code x) (op_code z) (eqb-true (op_code x) (op_code y) xy.0 ∙ eqb-true (op_code y) (op_code z) yz.0))
    (le-leb (op_length x) (op_length z) (omega (arith, leb-true (op_length x) (op_length y) xy.1, leb-true (op_length y) (op_length z) yz.1)))

-- a prefix of a prefix is a prefix
pub prefix_trans : (xs ys zs : List ℕ) → is_prefix xs ys ≡ true → is_prefix ys zs ≡ true → is_prefix xs zs ≡ true
unfolding is_prefix
prefix_trans [] ys zs p q = refl
prefix_trans (x ∷ xs) [] zs p q = absurd (false≢true p)
prefix_trans (x ∷ xs) (y ∷ ys) [] p q = absurd (false≢true q)
prefix_trans (x ∷ []) (y ∷ []) (z ∷ zs) p q = fits_trans x y z p q
prefix_trans (x ∷ []) (y ∷ y' ∷ ys) (z ∷ zs) p q =
    rw (eqb-true y z (and_parts (eqb y z) (is_prefix (y' ∷ ys) zs) q).0) at p
prefix_trans (x ∷ x' ∷ xs) (y ∷ []) (z ∷ zs) p q = absurd (false≢true (and_parts (eqb x y) false p).1)
prefix_trans (x ∷ x' ∷ xs) (y ∷ y' ∷ ys) (z ∷ zs) p q =
    let xy = and_parts (eqb x y) (is_prefix (x' ∷ xs) (y' ∷ ys)) p in
    let yz = and_parts (eqb y z) (is_prefix (y' ∷ ys) zs) q in
    rw (eq-eqb x z (eqb-true x y xy.0 ∙ eqb-true y z yz.0)) (prefix_trans (x' ∷ xs) (y' ∷ ys) zs xy.1 yz.1)

-- as words, entries compare by length and then by code
entry_order : (x y : ℕ) → entry_before x y ≡ ltb x y
entry_order x y = by_length (ltb (op_length x) (op_length y)) (eqb (op_length x) (op_length y)) (ltb (op_code x) (op_code y)) refl refl refl
  where
    by_length : (l e c : Bool) → ltb (op_length x) (op_length y) ≡ l → eqb (op_length x) (op_length y) ≡ e → ltb (op_code x) (op_code y) ≡ c → entry_before x y ≡ ltb x y
    by_length true e c p q r = rw p (sym (lt-ltb x y (omega (arith, ltb-true (op_length x) (op_length y) p))))
    by_length false true true p q r = rw (p, q, r) (sym (lt-ltb x y (omega (arith, eqb-true (op_length x) (op_length y) q, ltb-true (op_code x) (op_code y) r))))
    by_length false true false p q r = rw (p, q, r) (sym (le-ltb x y (omega (arith, eqb-true (op_length x) (op_length y) q, ltb-false (op_code x) (op_code y) r))))
    by_length false false c p q r =
        let differ : (op_length x ≡ op_length y → ⊥) = eqb-false (op_length x) (op_length y) q in
        rw (p, q) (sym (le-ltb x y (omega (arith, ltb-false (op_length x) (op_length y) p))))

-- the order of lists of words is that of std
pub smaller_order : (xs ys : List ℕ) → is_some_and is_lt (slice_partial_cmp (as_partial_cmp nat_cmp) xs ys) ≡ smaller xs ys
unfolding smaller
smaller_order [] [] = refl
smaller_order [] (y ∷ ys) = refl
smaller_order (x ∷ xs) [] = refl
smaller_order (x ∷ xs) (y ∷ ys) = rw (entry_order x y, entry_order y x) (by_order (ltb x y) (eqb x y) refl refl (smaller_order xs ys))
  where
    rest : Option Ordering
    rest = slice_partial_cmp (as_partial_cmp nat_cmp) xs ys

    by_order : (l e : Bool) → ltb x y ≡ l → eqb x y ≡ e → is_some_and is_lt rest ≡ smaller xs ys
        → is_some_and is_lt (partial_ordering_then (Some (cond l Less (cond e Equal Greater))) rest) ≡ l || (not (ltb y x) && smaller xs ys)
    by_order true e p q later = refl
    by_order false true p q later = rw (le-ltb y x (omega (arith, eqb-true x y q))) later
    by_order false false p q later = rw (lt-ltb y x (omega (arith, ltb-false x y p, eqb-false x y q)))
