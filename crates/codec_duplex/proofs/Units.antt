-- Laws of 16-bit values as byte pairs.
use mathlib.Core.List.{List, [], ◌∷◌, ◌++◌, append_assoc}
use mathlib.Core.Path.{◌≡◌, refl, ◌∙◌, ap}
use Prim.Native.Nat.{ℕ, zero, suc, ◌+◌, ◌*◌, ◌/◌, ◌%◌, ◌<◌}
use native.Mathlib.Omega.{arith}
use lib.ListN.{length, get_or, set, length-append, length-set}
use Rattle.lists.specs.Written.{written}
use Rattle.lists.proofs.Written.{written_more}
use Rattle.codec_duplex.specs.Units.{Writes, words, low_first, shorts, byte_pairs}

pub length_words : (bytes : List ℕ) → length (words bytes) ≡ length bytes / 2
unfolding words
length_words [] = refl
length_words (low ∷ []) = refl
length_words (low ∷ high ∷ bytes) = omega (arith, length_words bytes)

-- the value at a place is that of its two bytes
pub words_at : (bytes : List ℕ) (i : ℕ) → i * 2 + 1 < length bytes → get_or (words bytes) i 0 ≡ get_or bytes (i * 2) 0 + 256 * get_or bytes (i * 2 + 1) 0
unfolding words
words_at [] i h = absurd (omega arith)
words_at (low ∷ []) i h = absurd (omega arith)
words_at (low ∷ high ∷ bytes) zero h = refl
words_at (low ∷ high ∷ bytes) (suc i) h =
    let at_low : suc i * 2 ≡ suc (suc (i * 2)) = omega arith in
    let at_high : suc i * 2 + 1 ≡ suc (suc (i * 2 + 1)) = omega arith in
    rw (at_high, at_low) (words_at bytes i (omega arith))

-- a place of a value is one of two bytes
pub words_within : (bytes : List ℕ) (i : ℕ) → i < length (words bytes) → i * 2 + 1 < length bytes
words_within bytes i h = omega (arith, h, length_words bytes)

pub length-low_first : (xs : List ℕ) → length (low_first xs) ≡ length xs * 2
unfolding low_first
length-low_first [] = refl
length-low_first (x ∷ xs) = omega (arith, length-low_first xs)

low_first_snoc : (xs : List ℕ) (x : ℕ) → low_first (xs ++ (x ∷ [])) ≡ low_first xs ++ ((x % 256) ∷ (x / 256) ∷ [])
unfolding low_first
low_first_snoc [] x = refl
low_first_snoc (y ∷ xs) x = rw (low_first_snoc xs x)

-- a column of bytes with two places more
written_two : (xs old : List ℕ) (a b : ℕ) → length xs + 1 < length old
    → set (set (written xs old) (length xs) a) (length xs + 1) b ≡ written (xs ++ (a ∷ b ∷ [])) old
written_two xs old a b h =
    let more : set (written (xs ++ (a ∷ [])) old) (length (xs ++ (a ∷ []))) b ≡ written ((xs ++ (a ∷ [])) ++ (b ∷ [])) old = written_more (xs ++ (a ∷ [])) old b (simp length-append (omega arith)) in
    rw (written_more xs old a (omega arith)) (simp (length-append, append_assoc) (simp (length-append, append_assoc) at more))

pub shorts_written : (i value : ℕ) (before : List ℕ) → Writes shorts i value before (set before i value)
shorts_written i value before =
    record { exact = refl; room = length-set before i value; next = λ xs lent n h e. rw (e, ← n) (written_more xs lent value (rw (← n) at h)) }

pub byte_pairs_written : (i value : ℕ) (before : List ℕ) → Writes byte_pairs i value before (set (set before (i * 2) (value % 256)) (i * 2 + 1) (value / 256))
byte_pairs_written i value before =
    record {
      exact = refl;
      room = simp (length_words, length-set);
      next = λ xs lent n h e.
          let at : length (low_first xs) ≡ i * 2 = length-low_first xs ∙ ap (λ (k : ℕ). k * 2) n in
          rw (e, low_first_snoc, ← at) (written_two (low_first xs) lent (value % 256) (value / 256) (rw at (words_within lent i h)));
    }
