-- What the way there gives: operations, how many, the bases that they consume, their size.
use mathlib.Core.Bool.{Bool, true, false, cond, not}
use mathlib.Core.List.{List, [], ◌∷◌}
use mathlib.Core.Logic.{◌⊎◌, inl, inr, ⊎_elim}
use mathlib.Core.Path.{◌≡◌, refl, sym, ◌∙◌}
use Prim.Native.Nat.{ℕ, suc, ◌+◌, ◌≤◌}
use native.Mathlib.Omega.{arith}
use lib.Dec.{ltb}
use lib.ListN.{length, length-append, get_or}
use Rattle.std.specs.List.{list_all}
use Rattle.std.proofs.lemmas.Bool.{and_parts, and_from, or_left, or_right}
use Rattle.std.proofs.lemmas.List.Folds.{list_all-append}
use Rattle.lists.specs.Total.{total}
use Rattle.lists.proofs.Every.{list_all_at, list_all_of}
use Rattle.lists.proofs.Total.{total-append, total-same}
use Rattle.raw_bam.specs.Cigar.{op_length, read_bases, reference_bases, read_length, reference_length, is_operation}
use Rattle.raw_bam.specs.Simplified.{joined}
use Rattle.extended_cigar.specs.Extended.{is_m, is_extended, base_by_base, extended_word, extended_from, extended}
use Rattle.extended_cigar.specs.Refusals.{is_plain, is_word}
use Rattle.extended_cigar.proofs.Counting.{Counts, counts_read, counts_reference, is_counted, words_fit}
use Rattle.extended_cigar.proofs.Runs.{is_run, run_joined, total_run, length_run, run_operation, run_no_M}

run_extended : (u : ℕ) → is_run u ≡ true → is_extended u ≡ true
run_extended u h = (and_parts (is_extended u) (ltb 0 (op_length u)) h).0

module _ (read reference : List ℕ) where
  -- a test that holds of = and X, and of those given that are not M
  every_there : (given test : ℕ → Bool) → ((word : ℕ) → is_run word ≡ true → test word ≡ true) → ((word : ℕ) → given word ≡ true → is_m word ≡ false → test word ≡ true)
      → (i j : ℕ) (words : List ℕ) → list_all given words ≡ true → list_all test (extended_from read reference i j words) ≡ true
  unfolding extended_from extended_word
  every_there given test runs others i j [] h = refl
  every_there given test runs others i j (word ∷ words) h =
      let both = and_parts (given word) (list_all given words) h in
      list_all-append test _ _
      ∙ and_from (list_all test (extended_word read reference i j word)) _ (one (is_m word) refl both.0)
      (every_there given test runs others (i + read_bases word) (j + reference_bases word) words both.1)
    where
      one : (m : Bool) → is_m word ≡ m → given word ≡ true → list_all test (cond m (joined (base_by_base read reference i j (op_length word))) (word ∷ [])) ≡ true
      one true p q =
          let us = joined (base_by_base read reference i j (op_length word)) in
          list_all_of test us 0 (λ k h. runs (get_or us k 0) (list_all_at is_run us 0 (run_joined read reference i j (op_length word)) k h))
      one false p q = and_from (test word) true (others word q p) refl

  -- both lists consume the same
  total_there : {f : ℕ → ℕ} → Counts f → (i j : ℕ) (words : List ℕ) → total f (extended_from read reference i j words) ≡ total f words
  unfolding extended_from extended_word total
  total_there counts i j [] = refl
  total_there {f} counts i j (word ∷ words) =
      total-append f (extended_word read reference i j word) (extended_from read reference (i + read_bases word) (j + reference_bases word) words)
      ∙ omega (arith, one (is_m word) refl, total_there counts (i + read_bases word) (j + reference_bases word) words)
    where
      one : (m : Bool) → is_m word ≡ m → total f (cond m (joined (base_by_base read reference i j (op_length word))) (word ∷ [])) ≡ f word
      one true p =
          let us = joined (base_by_base read reference i j (op_length word)) in
          total-same f op_length 0 us (λ k h. counts.of_extended (get_or us k 0) (run_extended (get_or us k 0) (list_all_at is_run us 0 (run_joined read reference i j (op_length word)) k h)))
          ∙ total_run read reference i j (op_length word) ∙ sym (counts.of_m word p)
      one false p = omega arith

  -- an operation has a word for each read base, or is one word
  pub length_word : (i j word : ℕ) → length (extended_word read reference i j word) ≤ read_bases word + 1
  unfolding extended_word
  length_word i j word = by_kind (is_m word) refl
    where
      by_kind : (m : Bool) → is_m word ≡ m → length (cond m (joined (base_by_base read reference i j (op_length word))) (word ∷ [])) ≤ read_bases word + 1
      by_kind true p = omega (arith, length_run read reference i j (op_length word), counts_read.of_m word p)
      by_kind false p = omega arith

  -- a word for each base of an M, and one for each other operation
  length_there : (i j : ℕ) (words : List ℕ)
      → (length (extended_from read reference i j words) ≤ length words) ⊎ (suc (length (extended_from read reference i j words)) ≤ read_length words + length words)
  unfolding extended_from extended_word total
  length_there i j [] = inl (omega arith)
  length_there i j (word ∷ words) =
      rw (length-append (extended_word read reference i j word) (extended_from read reference (i + read_bases word) (j + reference_bases word) words))
      (step (is_m word) refl (length_there (i + read_bases word) (j + reference_bases word) words))
    where
      step : (m : Bool) → is_m word ≡ m → {rest : ℕ} → (rest ≤ length words) ⊎ (suc rest ≤ read_length words + length words)
          → (length (cond m (joined (base_by_base read reference i j (op_length word))) (word ∷ [])) + rest ≤ suc (length words))
          ⊎ (suc (length (cond m (joined (base_by_base read reference i j (op_length word))) (word ∷ [])) + rest) ≤ read_bases word + read_length words + suc (length words))
      step true p (inl e) = inr (omega (arith, length_run read reference i j (op_length word), counts_read.of_m word p))
      step true p (inr e) = inr (omega (arith, length_run read reference i j (op_length word), counts_read.of_m word p))
      step false p (inl e) = inl (omega arith)
      step false p (inr e) = inr (omega arith)

module _ (words read reference : List ℕ) where
  -- every word that is given is an operation
  pub operations_there : list_all is_plain words ≡ true → list_all is_operation (extended words read reference) ≡ true
  unfolding extended
  operations_there h = every_there read reference is_plain is_operation run_operation (λ word p m. (and_parts (is_operation word) (not (is_extended word)) p).0) 0 0 words h

  -- and no M is left
  pub no_M_there : list_all is_plain words ≡ true → list_all (λ word. not (is_m word)) (extended words read reference) ≡ true
  unfolding extended
  no_M_there h = every_there read reference is_plain (λ word. not (is_m word)) run_no_M (λ word p m. rw m) 0 0 words h

  pub read_there : read_length (extended words read reference) ≡ read_length words
  unfolding extended
  read_there = total_there read reference counts_read 0 0 words

  pub reference_there : reference_length (extended words read reference) ≡ reference_length words
  unfolding extended
  reference_there = total_there read reference counts_reference 0 0 words

  -- 1,024 bases and 63 other operations
  pub at_most_there : length words ≤ 64 → read_length words ≤ 1024 → length (extended words read reference) ≤ 1087
  unfolding extended
  at_most_there few short = ⊎_elim (λ e. omega arith) (λ e. omega arith) (length_there read reference 0 0 words)

  pub below_there : list_all is_word words ≡ true → read_length words ≤ 1024 → list_all is_word (extended words read reference) ≡ true
  unfolding extended
  below_there h few = words_fit (extended words read reference) made (rw read_there few)
    where
      made : list_all is_counted (extended words read reference) ≡ true
      made = every_there read reference is_word is_counted (λ u p. or_right (is_m u) _ (or_left (is_extended u) _ (run_extended u p))) (λ u p m. or_right (is_m u) _ (or_right (is_extended u) _ p)) 0 0 words h
