-- The operations that are left read the bases that are left of both, and their words go behind those that are written.
use mathlib.Core.Bool.{Bool, true, false, cond}
use mathlib.Core.List.{List, [], ◌∷◌, ◌++◌, append_assoc, append-nil}
use mathlib.Core.Path.{◌≡◌, refl, sym, ◌∙◌, ap, ap₂}
use Prim.Native.Nat.{ℕ, ◌+◌, ◌-◌, ◌<◌}
use native.Mathlib.Nat.{add_assoc, add-zero, zero-add}
use native.Mathlib.Omega.{arith}
use borrow.Rule.Slice.PartMut.{put_mid}
use lib.ListN.{length, take, drop, length-append, drop_of_length-le}
use lib.Seq.{get_or-take, get_or-drop, take_all, drop-drop}
use Rattle.std.proofs.Math.Seq.{take-append_seam, drop-append_seam}
use Rattle.lists.specs.Written.{written}
use Rattle.lists.specs.Tabulate.{tabulate}
use Rattle.lists.proofs.Tabulate.{length-tabulate, get_d_tabulate, tabulate_by_all}
use Rattle.raw_bam.specs.Cigar.{op_length, read_bases, reference_bases}
use Rattle.raw_bam.specs.Simplified.{joined}
use Rattle.extended_cigar.specs.Extended.{is_m, base_word, base_by_base, extended_word, extended_from}
use Rattle.extended_cigar.proofs.Counting.{counts_read, counts_reference}

tabulate-same : (f g : ℕ → ℕ) (n : ℕ) → ((k : ℕ) → k < n → f k ≡ g k) → tabulate f n ≡ tabulate g n
tabulate-same f g n same = tabulate_by_all g (tabulate f n) n 0 (length-tabulate f n) (λ k h. get_d_tabulate f n k 0 h ∙ same k h)

module _ (read reference : List ℕ) where
  -- from an offset on, bases are those of the rest of both
  bases_left : (i j a b n : ℕ) → base_by_base (drop i read) (drop j reference) a b n ≡ base_by_base read reference (i + a) (j + b) n
  unfolding base_by_base
  bases_left i j a b n = tabulate-same _ _ n (λ k h. ap₂ base_word (get_or-drop i read (a + k) 0 ∙ rw add_assoc) (get_or-drop j reference (b + k) 0 ∙ rw add_assoc))

  word_left : (i j a b word : ℕ) → extended_word (drop i read) (drop j reference) a b word ≡ extended_word read reference (i + a) (j + b) word
  unfolding extended_word
  word_left i j a b word = rw bases_left

  from_left : (words : List ℕ) (i j a b : ℕ) → extended_from (drop i read) (drop j reference) a b words ≡ extended_from read reference (i + a) (j + b) words
  unfolding extended_from
  from_left [] i j a b = refl
  from_left (word ∷ words) i j a b = rw (word_left, from_left words i j (a + read_bases word) (b + reference_bases word), add_assoc i a (read_bases word), add_assoc j b (reference_bases word))

  -- an operation reads no more of them than it consumes
  word_own : (word : ℕ) → extended_word (take (read_bases word) read) (take (reference_bases word) reference) 0 0 word ≡ extended_word read reference 0 0 word
  unfolding extended_word base_by_base
  word_own word = by_kind (is_m word) refl
    where
      own : is_m word ≡ true → base_by_base (take (read_bases word) read) (take (reference_bases word) reference) 0 0 (op_length word) ≡ base_by_base read reference 0 0 (op_length word)
      own m =
          tabulate-same _ _ (op_length word)
          (λ k h. ap₂ base_word (get_or-take (read_bases word) read (0 + k) 0 (omega (arith, counts_read.of_m word m))) (get_or-take (reference_bases word) reference (0 + k) 0 (omega (arith, counts_reference.of_m word m))))

      by_kind : (m : Bool) → is_m word ≡ m
          → cond m (joined (base_by_base (take (read_bases word) read) (take (reference_bases word) reference) 0 0 (op_length word))) (word ∷ []) ≡ cond m (joined (base_by_base read reference 0 0 (op_length word))) (word ∷ [])
      by_kind true m = ap joined (own m)
      by_kind false m = refl

  -- the first operation takes its bases off the front of both
  pub from_parts : (word : ℕ) (words : List ℕ)
      → extended_from read reference 0 0 (word ∷ words)
      ≡ extended_word (take (read_bases word) read) (take (reference_bases word) reference) 0 0 word ++ extended_from (drop (read_bases word) read) (drop (reference_bases word) reference) 0 0 words
  unfolding extended_from
  from_parts word words = rw (word_own, from_left words (read_bases word) (reference_bases word) 0 0, add-zero (read_bases word), add-zero (reference_bases word), zero-add (read_bases word), zero-add (reference_bases word))

-- words that are written behind those that stand
module _ (done xs old : List ℕ) where
  rest : List ℕ
  rest = drop (length done) old

  abbrev column : List ℕ
  column = written done old

  pub written_behind : put_mid (length done) (length column - length done) column (written xs (take (length column - length done) (drop (length done) column))) ≡ written (done ++ xs) old
  unfolding rest
  written_behind =
      let size : length column - length done ≡ length rest = simp length-append (omega arith) in
      rw (size, take-append_seam done rest, drop-append_seam done rest, take_all (length rest) rest (omega arith), drop_of_length-le rest {i = length rest} (omega arith), append-nil, length-append done xs, drop-drop (length xs) (length done) old)
      (sym (append_assoc done xs (drop (length done + length xs) old)))
