-- What the way back gives: how many words, the bases that they consume, their size.
use mathlib.Core.Bool.{Bool, true, false, cond, not}
use mathlib.Core.List.{List, map}
use mathlib.Core.Path.{◌≡◌, refl, sym, ◌∙◌}
use Prim.Native.Nat.{ℕ, ◌*◌, ◌≤◌, ◌<◌}
use native.Mathlib.Omega.{arith}
use borrow.Author.Tests.{eqb-true, eq-eqb, ltb-true, lt-ltb}
use lib.Dec.{leb, ltb}
use lib.ListN.{length, get_or, length-map}
use Rattle.std.specs.List.{list_all}
use Rattle.std.proofs.lemmas.Bool.{and_parts, and_from, or_left, or_right}
use Rattle.std.proofs.lemmas.List.Folds.{list_all-map}
use Rattle.lists.specs.Total.{total}
use Rattle.lists.proofs.Every.{list_all_at, list_all_of}
use Rattle.lists.proofs.Total.{total-map, total-same}
use Rattle.raw_bam.specs.Cigar.{op_length, op_code, read_length, reference_length, is_operation}
use Rattle.raw_bam.specs.Simplified.{joined_word}
use Rattle.raw_bam.proofs.Joining.{joining, length_join, total-joined_by, length-joined_by, list_all-joined_by}
use Rattle.extended_cigar.specs.Extended.{is_m, is_extended}
use Rattle.extended_cigar.specs.Plain.{plain_word, both_m, plain}
use Rattle.extended_cigar.specs.Refusals.{is_plain, is_word}
use Rattle.extended_cigar.proofs.Counting.{Counts, counts_read, counts_reference, M_join, M-adds, is_counted, words_fit}

M_bases : (n : ℕ) → is_m (n * 16) ≡ true
M_bases n = eq-eqb (op_code (n * 16)) 0 (omega arith)

length_bases : (n : ℕ) → op_length (n * 16) ≡ n
length_bases n = omega arith

some_bases : (word : ℕ) → is_operation word ≡ true → 0 < op_length word
some_bases word h = ltb-true 0 (op_length word) (and_parts (leb (op_code word) 8) (ltb 0 (op_length word)) h).1

-- an M that is not of length 0 is a plain operation
M-plain : (word : ℕ) → is_m word ≡ true → 0 < op_length word → is_plain word ≡ true
M-plain word p some =
    let zero-code = eqb-true (op_code word) 0 p in
    rw (lt-ltb 0 (op_length word) some, zero-code)

-- = and X turned into M consume what they did
pub plain_counts : {f : ℕ → ℕ} → Counts f → (word : ℕ) → f (plain_word word) ≡ f word
unfolding plain_word
plain_counts {f} counts word = by_kind (is_extended word) refl
  where
    by_kind : (ext : Bool) → is_extended word ≡ ext → f (cond ext (op_length word * 16) word) ≡ f word
    by_kind true p = counts.of_m (op_length word * 16) (M_bases (op_length word)) ∙ length_bases (op_length word) ∙ sym (counts.of_extended word p)
    by_kind false p = refl

-- and are plain operations
plain_operation : (word : ℕ) → is_operation word ≡ true → is_plain (plain_word word) ≡ true
unfolding plain_word
plain_operation word h = by_kind (is_extended word) refl
  where
    by_kind : (ext : Bool) → is_extended word ≡ ext → is_plain (cond ext (op_length word * 16) word) ≡ true
    by_kind true p = M-plain (op_length word * 16) (M_bases (op_length word)) (omega (arith, length_bases (op_length word), some_bases word h))
    by_kind false p = and_from (is_operation word) (not (is_extended word)) h (rw p)

-- a word is one still, or an M
plain_fits : (word : ℕ) → is_word word ≡ true → is_counted (plain_word word) ≡ true
unfolding plain_word
plain_fits word h = by_kind (is_extended word)
  where
    by_kind : (ext : Bool) → is_counted (cond ext (op_length word * 16) word) ≡ true
    by_kind true = or_left (is_m (op_length word * 16)) _ (M_bases (op_length word))
    by_kind false = or_right (is_m word) _ (or_right (is_extended word) _ h)

-- what a test of each word says of the words as they become plain
each_plain : (given test : ℕ → Bool) → ((word : ℕ) → given word ≡ true → test (plain_word word) ≡ true) → (words : List ℕ) → list_all given words ≡ true → list_all test (map plain_word words) ≡ true
each_plain given test f words h = list_all-map test plain_word words ∙ list_all_of _ words 0 (λ k within. f (get_or words k 0) (list_all_at given words 0 h k within))

M_both : (x y : ℕ) → joining both_m x y ≡ true → is_m x ≡ true
M_both x y h = (and_parts (is_m x) (is_m y) h).0

pub total_plain_words : {f : ℕ → ℕ} → Counts f → (words : List ℕ) → total f (map plain_word words) ≡ total f words
total_plain_words {f} counts words = total-map f plain_word words ∙ total-same (λ word. f (plain_word word)) f 0 words (λ k h. plain_counts counts (get_or words k 0))

total-plain : {f : ℕ → ℕ} → Counts f → (words : List ℕ) → total f (plain words) ≡ total f words
unfolding plain
total-plain {f} counts words = total-joined_by both_m f (M-adds counts) (map plain_word words) ∙ total_plain_words counts words

module _ (words : List ℕ) where
  -- no more words than given
  pub at_most_back : length (plain words) ≤ length words
  unfolding plain
  at_most_back = omega (arith, length-joined_by both_m (map plain_word words), length-map words plain_word)

  pub read_back : read_length (plain words) ≡ read_length words
  read_back = total-plain counts_read words

  pub reference_back : reference_length (plain words) ≡ reference_length words
  reference_back = total-plain counts_reference words

  pub below_back : list_all is_word words ≡ true → read_length words ≤ 1024 → list_all is_word (plain words) ≡ true
  unfolding plain
  below_back h short =
      words_fit (plain words)
      (list_all-joined_by both_m is_counted (λ x y both p q. or_left (is_m (joined_word x y)) _ (M_join x y (M_both x y both))) (map plain_word words) (each_plain is_word is_counted plain_fits words h))
      (rw read_back short)

  -- only plain operations are left: no = and no X
  pub plain_back : list_all is_operation words ≡ true → list_all is_plain (plain words) ≡ true
  unfolding plain
  plain_back h = list_all-joined_by both_m is_plain keeps (map plain_word words) (each_plain is_operation is_plain plain_operation words h)
    where
      keeps : (x y : ℕ) → joining both_m x y ≡ true → is_plain x ≡ true → is_plain y ≡ true → is_plain (joined_word x y) ≡ true
      keeps x y both p q = M-plain (joined_word x y) (M_join x y (M_both x y both)) (omega (arith, length_join x y, some_bases x (and_parts (is_operation x) (not (is_extended x)) p).0))
