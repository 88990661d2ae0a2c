-- What M, = and X count, and that M's which join count what both did.
use mathlib.Core.Bool.{Bool, true, false, ◌||◌, false≢true}
use mathlib.Core.List.{List}
use mathlib.Core.Logic.{◌⊎◌, inl, inr, ⊎_elim}
use mathlib.Core.Path.{◌≡◌, refl, sym, ◌∙◌}
use Prim.Native.Nat.{ℕ, ◌+◌, ◌≤◌}
use native.Mathlib.Omega.{arith}
use borrow.Author.Tests.{eqb-true, lt-ltb}
use lib.Dec.{eqb}
use lib.ListN.{get_or}
use Rattle.std.specs.List.{list_all}
use Rattle.std.proofs.lemmas.Bool.{and_parts}
use Rattle.std.proofs.lemmas.List.Sums.{get_or-le-sum_by}
use Rattle.lists.proofs.Every.{list_all_at, list_all_of}
use Rattle.lists.proofs.Total.{total_is_sum_by}
use Rattle.raw_bam.specs.Cigar.{op_length, op_code, read_bases, reference_bases, read_length}
use Rattle.raw_bam.specs.Operations.{consumes_read, consumes_reference}
use Rattle.raw_bam.specs.Simplified.{joined_word}
use Rattle.raw_bam.proofs.Joining.{joining, code_join, length_join}
use Rattle.extended_cigar.specs.Extended.{is_m, is_extended}
use Rattle.extended_cigar.specs.Plain.{both_m}
use Rattle.extended_cigar.specs.Refusals.{is_word}

pub extended_code : (word : ℕ) → is_extended word ≡ true → (op_code word ≡ 7) ⊎ (op_code word ≡ 8)
extended_code word = by_code (eqb (op_code word) 7) (eqb (op_code word) 8) refl refl
  where
    by_code : (seven eight : Bool) → eqb (op_code word) 7 ≡ seven → eqb (op_code word) 8 ≡ eight → seven || eight ≡ true → (op_code word ≡ 7) ⊎ (op_code word ≡ 8)
    by_code true eight p q h = inl (eqb-true (op_code word) 7 p)
    by_code false true p q h = inr (eqb-true (op_code word) 8 q)
    by_code false false p q h = absurd (false≢true h)

-- a count of bases at which M, = and X count as many as they are long
pub record Counts (f : ℕ → ℕ) : Type 0 where
  pub of_m : (word : ℕ) → is_m word ≡ true → f word ≡ op_length word
  pub of_extended : (word : ℕ) → is_extended word ≡ true → f word ≡ op_length word

pub counts_read : Counts read_bases
unfolding read_bases consumes_read
counts_read = record { of_m = λ word h. rw (eqb-true (op_code word) 0 h); of_extended = λ word h. ⊎_elim (λ e. rw e) (λ e. rw e) (extended_code word h) }

pub counts_reference : Counts reference_bases
unfolding reference_bases consumes_reference
counts_reference = record { of_m = λ word h. rw (eqb-true (op_code word) 0 h); of_extended = λ word h. ⊎_elim (λ e. rw e) (λ e. rw e) (extended_code word h) }

pub M_join : (x y : ℕ) → is_m x ≡ true → is_m (joined_word x y) ≡ true
M_join x y h = rw code_join h

pub both_alike : (a b : ℕ) → both_m a b ≡ true → a ≡ b
both_alike a b h =
    let both = and_parts (eqb a 0) (eqb b 0) h in
    eqb-true a 0 both.0 ∙ sym (eqb-true b 0 both.1)

pub M-adds : {f : ℕ → ℕ} → Counts f → (x y : ℕ) → joining both_m x y ≡ true → f (joined_word x y) ≡ f x + f y
M-adds counts x y h =
    let both = and_parts (is_m x) (is_m y) h in
    omega (arith, counts.of_m x both.0, counts.of_m y both.1, counts.of_m (joined_word x y) (M_join x y both.0), length_join x y)

-- M, = or X, or a word of 32 bits
abbrev pub is_counted : ℕ → Bool
is_counted u = is_m u || (is_extended u || is_word u)

-- such words of at most 1,024 read bases together are words of 32 bits
pub words_fit : (us : List ℕ) → list_all is_counted us ≡ true → read_length us ≤ 1024 → list_all is_word us ≡ true
words_fit us h short = list_all_of is_word us 0 (λ k within. fits (get_or us k 0) (list_all_at is_counted us 0 h k within) (omega (arith, rw total_is_sum_by at short, get_or-le-sum_by read_bases us k 0 within)))
  where
    counted : (u : ℕ) → read_bases u ≡ op_length u → read_bases u ≤ 1024 → is_word u ≡ true
    counted u e few = lt-ltb u 4294967296 (omega arith)

    fits : (u : ℕ) → is_counted u ≡ true → read_bases u ≤ 1024 → is_word u ≡ true
    fits u h few = by_kind (is_m u) (is_extended u) refl refl h
      where
        by_kind : (m ext : Bool) → is_m u ≡ m → is_extended u ≡ ext → m || (ext || is_word u) ≡ true → is_word u ≡ true
        by_kind true ext p q h = counted u (counts_read.of_m u p) few
        by_kind false true p q h = counted u (counts_read.of_extended u q) few
        by_kind false false p q h = h
