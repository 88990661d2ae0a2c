-- Laws of marks: the words of a list of flags, and the flags of a side.
use mathlib.Core.Bool.{Bool, true, false, cond, ◌||◌}
use mathlib.Core.List.{List, [], ◌∷◌, ◌++◌, append-nil}
use mathlib.Core.Path.{◌≡◌, refl, sym, ◌∙◌, ap, ap₂, fun_ext}
use Prim.Native.Nat.{ℕ, zero, suc, ◌+◌, ◌*◌, ◌^◌, ◌/◌, ◌%◌, ◌≤◌, ◌<◌, min}
use native.Mathlib.Decide.{dec_lt, ℕ_discrete}
use native.Mathlib.Nat.{zero-div}
use native.Mathlib.Numerals.{add-one}
use native.Mathlib.Omega.{arith}
use borrow.Author.Tests.{eq-eqb, ne_eqb}
use lib.Dec.{eqb}
use lib.ListN.{length, get_or, set, take, drop, replicate, length-replicate, length-set, replicate-append-replicate, drop_of_length-le, get_or-append, length-append}
use lib.Pow.{pow_mono, shr-shr}
use lib.Seq.{get_or-set_same, get_or-set_other, take-nil, ext_get_or, get_or-take, get_or-drop, length-take-le, take-append_seam, drop-append_seam}
use Rattle.std.proofs.lemmas.List.{nil_from_length, take_all, drop-drop}
use mir.Val.{bool_byte}
use Rattle.lists.specs.Tabulate.{tabulate}
use Rattle.lists.specs.Written.{written}
use Rattle.lists.proofs.Places.{get_d_repeated}
use Rattle.lists.proofs.Tabulate.{length-tabulate, get_d_tabulate, tabulate_get_d}
use Rattle.lists.proofs.Written.{length-written, get_d-written_beyond}
use Rattle.lists.specs.Member.{is_in}
use Rattle.codec_records.specs.Marks.{word_of, word_at, marks, flagged, side_flags}

pub bit_of : (flag : Bool) → bool_byte flag ≡ cond flag 1 0
bit_of true = refl
bit_of false = refl

pub bit_below : (flag : Bool) → cond flag 1 0 < 2
bit_below true = omega arith
bit_below false = omega arith

pub word_below : (flags : List Bool) → word_of flags < 2 ^ length flags
unfolding word_of
word_below [] = omega arith
word_below (flag ∷ flags) = one_more (length flags) (bit_below flag) (word_below flags)
  where
    one_more : (n : ℕ) {bit word : ℕ} → bit < 2 → word < 2 ^ n → bit + 2 * word < 2 ^ suc n
    one_more n h g = omega arith

-- so many bits are enough
pub word_fits : (flags : List Bool) (bits : ℕ) → length flags ≤ bits → word_of flags < 2 ^ bits
word_fits flags bits h = omega (arith, word_below flags, pow_mono h)

-- the flags from word w on begin with those of the word, and behind them are those of the next words
module _ (flags rest part more : List Bool) (w : ℕ) (here : rest ≡ drop (64 * w) flags) (parts : rest ≡ part ++ more) (size : length part ≡ min 64 (length rest)) where
  none_more : length rest < 64 → more ≡ []
  none_more few = nil_from_length more (omega (arith, size, length-append part more, ap length parts))

  chunk_is : Dec (length rest < 64) → take 64 rest ≡ part
  chunk_is (yes few) = take_all 64 rest (omega arith) ∙ parts ∙ rw (none_more few) (append-nil part)
  chunk_is (no many) =
      let full : length part ≡ 64 = omega (arith, size, many) in
      rw parts (rw full at (take-append_seam part more))

  chunk-behind : Dec (length rest < 64) → drop 64 rest ≡ more
  chunk-behind (yes few) = drop_of_length-le rest {i = 64} (omega arith) ∙ sym (none_more few)
  chunk-behind (no many) =
      let full : length part ≡ 64 = omega (arith, size, many) in
      rw parts (rw full at (drop-append_seam part more))

  pub chunk_word : word_of part ≡ word_at flags w
  unfolding word_at
  chunk_word = rw (← here) (ap word_of (sym (chunk_is (dec_lt (length rest) 64))))

  pub chunk-next : more ≡ drop (64 * (w + 1)) flags
  chunk-next =
      let place : 64 * (w + 1) ≡ 64 * w + 64 = omega arith in
      rw (place, ← drop-drop 64 (64 * w) flags, ← here) (sym (chunk-behind (dec_lt (length rest) 64)))

-- a word that no flag reaches
word_beyond : (flags : List Bool) (w : ℕ) → length flags ≤ 64 * w → word_at flags w ≡ 0
unfolding word_at word_of
word_beyond flags w h = rw (drop_of_length-le flags {i = 64 * w} h)

-- the words from the front are all of them once no flag is left
pub marks-all : (flags : List Bool) (w : ℕ) {words : List ℕ} → w ≤ 8 → length flags ≤ 64 * w → words ≡ written (tabulate (word_at flags) w) (replicate 8 0) → words ≡ marks flags
unfolding marks
marks-all flags w {words} h end e =
    e
    ∙ ext_get_or 0 (written front (replicate 8 0)) (tabulate (word_at flags) 8) (size ∙ sym (length-tabulate (word_at flags) 8))
    (λ k within. by_place k (dec_lt k w) ∙ sym (get_d_tabulate (word_at flags) 8 k 0 (rw size at within)))
  where
    front : List ℕ
    front = tabulate (word_at flags) w

    size : length (written front (replicate 8 0)) ≡ 8
    size = length-written front (replicate 8 0) (rw (length-tabulate (word_at flags) w) h)

    by_place : (k : ℕ) → Dec (k < w) → get_or (written front (replicate 8 0)) k 0 ≡ word_at flags k
    by_place k (yes inside) = get_or-append front (drop (length front) (replicate 8 0)) 0 k (rw (length-tabulate (word_at flags) w) inside) ∙ get_d_tabulate (word_at flags) w k 0 inside
    by_place k (no beyond) =
        get_d-written_beyond front (replicate 8 0) k 0 (rw (length-tabulate (word_at flags) w) (omega (arith, beyond))) ∙ get_d_repeated 8 k 0 ∙ sym (word_beyond flags k (omega (arith, beyond)))

bit_at : (flags : List Bool) (i : ℕ) → word_of flags / 2 ^ i % 2 ≡ cond (get_or flags i false) 1 0
unfolding word_of
bit_at [] i = rw (zero-div (2 ^ i))
bit_at (flag ∷ flags) zero = omega (arith, bit_below flag)
bit_at (flag ∷ flags) (suc i) =
    let rest : (cond flag 1 0 + 2 * word_of flags) / 2 ^ 1 ≡ word_of flags = omega (arith, bit_below flag) in
    let place : suc i ≡ 1 + i = omega arith in
    rw (place, ← shr-shr (cond flag 1 0 + 2 * word_of flags) 1 i, rest) (bit_at flags i)

-- record i is bit i mod 64 of word i / 64, bit 0 lowest
pub mark_at : (flags : List Bool) (i : ℕ) → i < 512 → get_or (marks flags) (i / 64) 0 / 2 ^ (i % 64) % 2 ≡ cond (get_or flags i false) 1 0
unfolding marks word_at
mark_at flags i h =
    let place : 64 * (i / 64) + i % 64 ≡ i = omega arith in
    let part = drop (64 * (i / 64)) flags in
    rw (get_d_tabulate (word_at flags) 8 (i / 64) 0 (omega arith))
    (bit_at (take 64 part) (i % 64)
    ∙ rw (get_or-take 64 part (i % 64) false (omega arith), get_or-drop (64 * (i / 64)) flags (i % 64) false, place))

pub flagged-none : (flags : List Bool) → flagged [] flags ≡ flags
unfolding flagged is_in
flagged-none flags = tabulate_get_d flags false

-- one record more
pub flagged_more : (r : ℕ) (records : List ℕ) (flags : List Bool) → r < length flags → flagged (r ∷ records) flags ≡ flagged records (set flags r true)
unfolding flagged is_in
flagged_more r records flags h = ap₂ (tabulate {A = Bool}) (fun_ext (λ q. at q (ℕ_discrete q r))) (sym (length-set flags r true))
  where
    set_by : (test : Bool) → true ≡ test || true
    set_by true = refl
    set_by false = refl

    at : (q : ℕ) → Dec (q ≡ r) → (eqb q r || is_in q records) || get_or flags q false ≡ is_in q records || get_or (set flags r true) q false
    at q (yes e) = rw (eq-eqb q r e, e, get_or-set_same flags r true false h) (set_by (is_in r records))
    at q (no differ) = rw (ne_eqb q r differ, get_or-set_other flags r q true false differ)

-- of flags that are set for a side's records alone, the first n
pub side_flagged : (side : List ℕ) (n m : ℕ) → n ≤ m → take n (flagged side (replicate m false)) ≡ side_flags side n
unfolding flagged side_flags
side_flagged side n m h =
    let none = replicate m false in
    let flags = tabulate (λ r. is_in r side || get_or none r false) (length none) in
    let room : length flags ≡ m = length-tabulate (λ r. is_in r side || get_or none r false) (length none) ∙ length-replicate m false in
    let size : length (take n flags) ≡ n = length-take-le n flags (rw room h) in
    ext_get_or false (take n flags) (tabulate (λ i. is_in i side) n) (size ∙ sym (length-tabulate (λ i. is_in i side) n))
    (λ i within.
    let below : i < n = rw size at within in
    get_or-take n flags i false below
    ∙ get_d_tabulate (λ r. is_in r side || get_or none r false) (length none) i false (rw (length-replicate m false) (omega arith))
    ∙ rw (get_d_repeated m i false) (unset (is_in i side))
    ∙ sym (get_d_tabulate (λ k. is_in k side) n i false below))
  where
    unset : (flag : Bool) → flag || false ≡ flag
    unset true = refl
    unset false = refl

-- no record, no mark
no_front : (m n : ℕ) → word_of (take m (replicate n false)) ≡ 0
unfolding word_of
no_front zero n = refl
no_front (suc m) zero = refl
no_front (suc m) (suc n) = rw (no_front m n)

no_part : (k m n : ℕ) → word_of (take m (drop k (replicate n false))) ≡ 0
unfolding word_of
no_part zero m n = no_front m n
no_part (suc k) m zero = rw (take-nil {A = Bool} m)
no_part (suc k) m (suc n) = no_part k m n

no_flags : (n : ℕ) → tabulate (λ _. false) n ≡ replicate n false
unfolding tabulate
no_flags zero = refl
no_flags (suc n) = rw (no_flags n) (replicate-append-replicate n 1 false ∙ rw add-one)

no_word : (n w : ℕ) → word_at (side_flags [] n) w ≡ 0
unfolding side_flags is_in word_at
no_word n w = rw (no_flags n) (no_part (64 * w) 64 n)

pub no_marks : (n : ℕ) → marks (side_flags [] n) ≡ replicate 8 0
unfolding marks tabulate
no_marks n = ap (λ (word : ℕ → ℕ). tabulate word 8) (fun_ext (no_word n))
