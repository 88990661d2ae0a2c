-- What one M becomes: a run of = and X.
use mathlib.Core.Bool.{Bool, true, false, cond, not, ◌&&◌}
use mathlib.Core.List.{List}
use mathlib.Core.Logic.{⊎_elim}
use mathlib.Core.Path.{◌≡◌, refl, ◌∙◌}
use Prim.Native.Nat.{ℕ, zero, suc, ◌+◌, ◌*◌, ◌≤◌}
use native.Mathlib.Omega.{arith}
use borrow.Author.Tests.{ltb-true, lt-ltb, le-leb, ne_eqb}
use lib.Dec.{eqb, leb, ltb}
use lib.ListN.{length, get_or}
use Rattle.std.specs.List.{list_all}
use Rattle.std.proofs.lemmas.Bool.{and_parts, and_from}
use Rattle.lists.specs.Tabulate.{tabulate}
use Rattle.lists.specs.Total.{total}
use Rattle.lists.proofs.Tabulate.{length-tabulate, get_d_tabulate}
use Rattle.lists.proofs.Every.{list_all_of}
use Rattle.lists.proofs.Total.{total-append}
use Rattle.raw_bam.specs.Cigar.{op_length, op_code, is_operation}
use Rattle.raw_bam.specs.Simplified.{joined_word, joined}
use Rattle.raw_bam.proofs.Joining.{joining, code_join, length_join, total-joined, length-joined_by, list_all-joined_by}
use Rattle.extended_cigar.specs.Extended.{is_m, is_extended, base_word, base_by_base}
use Rattle.extended_cigar.proofs.Counting.{extended_code}

-- = or X, and not of length 0
abbrev pub is_run : ℕ → Bool
is_run word = is_extended word && ltb 0 (op_length word)

-- a run's words join to such words
run_join : (x y : ℕ) → joining eqb x y ≡ true → is_run x ≡ true → is_run y ≡ true → is_run (joined_word x y) ≡ true
run_join x y same p q =
    let both = and_parts (is_extended x) (ltb 0 (op_length x)) p in
    rw code_join
    (and_from (is_extended x) (ltb 0 (op_length (joined_word x y))) both.0
    (lt-ltb 0 (op_length (joined_word x y)) (omega (arith, ltb-true 0 (op_length x) both.1, length_join x y))))

-- the word of one base
run_base : (a b : ℕ) → (is_run (base_word a b) ≡ true) × (op_length (base_word a b) ≡ 1)
unfolding base_word
run_base a b = by_bytes (eqb a b)
  where
    by_bytes : (same : Bool) → (is_run (1 * 16 + cond same 7 8) ≡ true) × (op_length (1 * 16 + cond same 7 8) ≡ 1)
    by_bytes true = (refl, refl)
    by_bytes false = (refl, refl)

pub length_base : (a b : ℕ) → op_length (base_word a b) ≡ 1
length_base a b = (run_base a b).1

module _ (read reference : List ℕ) (i j : ℕ) where
  run_bases : (n : ℕ) → list_all is_run (base_by_base read reference i j n) ≡ true
  unfolding base_by_base
  run_bases n =
      let base : (ℕ → ℕ) = λ k. base_word (get_or read (i + k) 0) (get_or reference (j + k) 0) in
      list_all_of is_run (tabulate base n) 0 (λ k h. rw (get_d_tabulate base n k 0 (rw length-tabulate at h)) (run_base (get_or read (i + k) 0) (get_or reference (j + k) 0)).0)

  pub total_bases : (n : ℕ) → total op_length (base_by_base read reference i j n) ≡ n
  unfolding base_by_base tabulate total
  total_bases zero = refl
  total_bases (suc n) = rw (total-append op_length) (omega (arith, total_bases n, length_base (get_or read (i + n) 0) (get_or reference (j + n) 0)))

  -- = and X, none of length 0, with the bases that it had, no more words than bases
  pub run_joined : (n : ℕ) → list_all is_run (joined (base_by_base read reference i j n)) ≡ true
  run_joined n = list_all-joined_by eqb is_run run_join (base_by_base read reference i j n) (run_bases n)

  pub total_run : (n : ℕ) → total op_length (joined (base_by_base read reference i j n)) ≡ n
  total_run n = total-joined (base_by_base read reference i j n) ∙ total_bases n

  pub length_run : (n : ℕ) → length (joined (base_by_base read reference i j n)) ≤ n
  unfolding base_by_base
  length_run n = omega (arith, length-joined_by eqb (base_by_base read reference i j n), length-tabulate (λ k. base_word (get_or read (i + k) 0) (get_or reference (j + k) 0)) n)

pub run_operation : (word : ℕ) → is_run word ≡ true → is_operation word ≡ true
run_operation word h =
    let both = and_parts (is_extended word) (ltb 0 (op_length word)) h in
    and_from (leb (op_code word) 8) (ltb 0 (op_length word))
    (le-leb (op_code word) 8 (⊎_elim (λ e. omega arith) (λ e. omega arith) (extended_code word both.0)))
    both.1

pub run_no_M : (word : ℕ) → is_run word ≡ true → not (is_m word) ≡ true
run_no_M word h =
    let both = and_parts (is_extended word) (ltb 0 (op_length word)) h in
    rw (ne_eqb (op_code word) 0 (λ z. ⊎_elim (λ e. omega arith) (λ e. omega arith) (extended_code word both.0)))
