-- There and back: the plain list with neighbouring M's joined.
use mathlib.Core.Bool.{Bool, true, false, cond, not, ◌&&◌}
use mathlib.Core.List.{List, [], ◌∷◌, ◌++◌, map, map-append}
use mathlib.Core.Path.{◌≡◌, refl, ◌∙◌, ap}
use Prim.Native.Nat.{ℕ, ◌+◌, ◌*◌, ◌<◌}
use native.Mathlib.Omega.{arith}
use borrow.Author.Tests.{eqb-true, eq-eqb, ltb-true, not-true}
use lib.Dec.{leb, ltb}
use Rattle.std.specs.List.{list_all}
use Rattle.std.proofs.lemmas.Bool.{and_parts}
use Rattle.lists.specs.Total.{total}
use Rattle.raw_bam.specs.Cigar.{op_length, op_code, read_bases, reference_bases, is_operation}
use Rattle.raw_bam.specs.Simplified.{joined_word, prepend_by, joined_by, joined}
use Rattle.extended_cigar.specs.Extended.{is_m, is_extended, base_by_base, extended_word, extended_from, extended}
use Rattle.extended_cigar.specs.Plain.{plain_word, both_m, joined_m, plain}
use Rattle.extended_cigar.specs.Refusals.{is_plain}
use Rattle.extended_cigar.proofs.Runs.{is_run, run_joined, total_run}

-- two M's put before a list, one after the other, are one M
prepend_twice : (a b : ℕ) (ys : List ℕ) → prepend_by both_m (a * 16) (prepend_by both_m (b * 16) ys) ≡ prepend_by both_m ((a + b) * 16) ys
unfolding prepend_by
prepend_twice a b [] =
    let two : is_m (a * 16) && is_m (b * 16) ≡ true = rw (eq-eqb (op_code (a * 16)) 0 (omega arith), eq-eqb (op_code (b * 16)) 0 (omega arith)) in
    let sum : joined_word (a * 16) (b * 16) ≡ (a + b) * 16 = omega arith in
    rw (two, sum)
prepend_twice a b (y ∷ ys) = by_kind (is_m y) refl
  where
    code_a : is_m (a * 16) ≡ true
    code_a = eq-eqb (op_code (a * 16)) 0 (omega arith)

    code_b : is_m (b * 16) ≡ true
    code_b = eq-eqb (op_code (b * 16)) 0 (omega arith)

    code_sum : is_m ((a + b) * 16) ≡ true
    code_sum = eq-eqb (op_code ((a + b) * 16)) 0 (omega arith)

    code_join : is_m (joined_word (b * 16) y) ≡ true
    code_join = eq-eqb (op_code (joined_word (b * 16) y)) 0 (omega arith)

    sum : joined_word (a * 16) (b * 16) ≡ (a + b) * 16
    sum = omega arith

    sums : joined_word (a * 16) (joined_word (b * 16) y) ≡ joined_word ((a + b) * 16) y
    sums = omega arith

    by_kind : (same : Bool) → is_m y ≡ same
        → prepend_by both_m (a * 16) (cond (is_m (b * 16) && is_m y) (joined_word (b * 16) y ∷ ys) (b * 16 ∷ y ∷ ys)) ≡ cond (is_m ((a + b) * 16) && is_m y) (joined_word ((a + b) * 16) y ∷ ys) ((a + b) * 16 ∷ y ∷ ys)
    by_kind true p = rw (code_b, code_sum, p, code_a, code_join, sums)
    by_kind false p = rw (code_b, code_sum, p, code_a, code_b, sum)

plain_run : (word : ℕ) → is_run word ≡ true → plain_word word ≡ op_length word * 16
unfolding plain_word
plain_run word h = rw (and_parts (is_extended word) (ltb 0 (op_length word)) h).0

-- a run of = and X goes back to one M
run_back : (u : ℕ) (us rest : List ℕ) → list_all is_run (u ∷ us) ≡ true → joined_m (map plain_word (u ∷ us) ++ rest) ≡ prepend_by both_m (total op_length (u ∷ us) * 16) (joined_m rest)
unfolding joined_by total
run_back u [] rest h =
    let both = and_parts (is_run u) true h in
    let bases : op_length u + 0 ≡ op_length u = omega arith in
    rw (plain_run u both.0, bases)
run_back u (v ∷ vs) rest h =
    let both = and_parts (is_run u) (list_all is_run (v ∷ vs)) h in
    ap (prepend_by both_m (plain_word u)) (run_back v vs rest both.1)
    ∙ ap (λ (x : ℕ). prepend_by both_m x (prepend_by both_m (total op_length (v ∷ vs) * 16) (joined_m rest))) (plain_run u both.0)
    ∙ prepend_twice (op_length u) (total op_length (v ∷ vs)) (joined_m rest)

-- the same of a list that is known to have bases
run_back_to : (us rest : List ℕ) (n : ℕ) → list_all is_run us ≡ true → total op_length us ≡ n → 0 < n → joined_m (map plain_word us ++ rest) ≡ prepend_by both_m (n * 16) (joined_m rest)
unfolding total
run_back_to [] rest n h e some = absurd (omega arith)
run_back_to (u ∷ us) rest n h e some = run_back u us rest h ∙ ap (λ (k : ℕ). prepend_by both_m (k * 16) (joined_m rest)) e

plain-stays : (word : ℕ) → is_extended word ≡ false → plain_word word ≡ word
unfolding plain_word
plain-stays word h = rw h

module _ (read reference : List ℕ) where
  -- one operation there and back
  one_back : (i j word : ℕ) (rest : List ℕ) → is_plain word ≡ true → joined_m (map plain_word (extended_word read reference i j word) ++ rest) ≡ prepend_by both_m word (joined_m rest)
  unfolding extended_word joined_by
  one_back i j word rest h = by_kind (is_m word) refl
    where
      bounds : (is_operation word ≡ true) × (not (is_extended word) ≡ true)
      bounds = and_parts (is_operation word) (not (is_extended word)) h

      some : 0 < op_length word
      some = ltb-true 0 (op_length word) (and_parts (leb (op_code word) 8) (ltb 0 (op_length word)) bounds.0).1

      by_kind : (m : Bool) → is_m word ≡ m
          → joined_m (map plain_word (cond m (joined (base_by_base read reference i j (op_length word))) (word ∷ [])) ++ rest) ≡ prepend_by both_m word (joined_m rest)
      by_kind true p =
          let whole : op_length word * 16 ≡ word = omega (arith, eqb-true (op_code word) 0 p) in
          run_back_to (joined (base_by_base read reference i j (op_length word))) rest (op_length word) (run_joined read reference i j (op_length word)) (total_run read reference i j (op_length word)) some
          ∙ ap (λ (x : ℕ). prepend_by both_m x (joined_m rest)) whole
      by_kind false p = ap (λ (x : ℕ). prepend_by both_m x (joined_m rest)) (plain-stays word (not-true (is_extended word) bounds.1))

  from_back : (i j : ℕ) (words : List ℕ) → list_all is_plain words ≡ true → joined_m (map plain_word (extended_from read reference i j words)) ≡ joined_m words
  unfolding extended_from joined_by
  from_back i j [] h = refl
  from_back i j (word ∷ words) h =
      let both = and_parts (is_plain word) (list_all is_plain words) h in
      ap joined_m (map-append plain_word (extended_word read reference i j word) (extended_from read reference (i + read_bases word) (j + reference_bases word) words))
      ∙ one_back i j word (map plain_word (extended_from read reference (i + read_bases word) (j + reference_bases word) words)) both.0
      ∙ ap (prepend_by both_m word) (from_back (i + read_bases word) (j + reference_bases word) words both.1)

-- 'There and back gives the plain list with neighbouring M's joined': of a list of plain operations
pub there_and_back : (words read reference : List ℕ) → list_all is_plain words ≡ true → plain (extended words read reference) ≡ joined_m words
unfolding plain extended
there_and_back words read reference h = from_back read reference 0 0 words h
