-- The marks of a family: bit by bit, and how many are set.
use mathlib.Core.Bool.{Bool, cond}
use mathlib.Core.List.{List, [], ◌∷◌, map}
use mathlib.Core.Path.{◌≡◌, refl, ◌∙◌, ap}
use Prim.Native.Nat.{ℕ, zero, suc, ◌+◌, ◌*◌, ◌/◌, ◌%◌, ◌^◌, ◌≤◌, ◌<◌}
use native.Mathlib.Omega.{arith}
use lib.Count.{ones, ones_step}
use lib.ListN.{length, get_or, take, drop, length-map, get_or-append, get_or-map}
use lib.Seq.{take-add, take_all}
use Rattle.lists.specs.Tabulate.{tabulate}
use Rattle.lists.specs.Total.{total}
use Rattle.lists.specs.Written.{written}
use Rattle.lists.proofs.Tabulate.{length-tabulate}
use Rattle.lists.proofs.Total.{total-append, total-map}
use Rattle.lists.proofs.Written.{take-written}
use Rattle.caller.specs.Fates.{is_marked}
use Rattle.codec_records.specs.Marks.{word_of, word_at, marks}
use Rattle.codec_records.proofs.Words.{bit_below, mark_at}
use Rattle.codec_rejects.specs.Fates.{marked_rejections}
use Rattle.codec_rejects.specs.Handover.{mark_words}

-- how many flags are set
abbrev set_flags : List Bool → ℕ
set_flags flags = total (λ flag. cond flag 1 0) flags

-- a word has a one for each flag that is set
ones_word : (flags : List Bool) → ones (word_of flags) ≡ set_flags flags
unfolding word_of total ones
ones_word [] = refl
ones_word (flag ∷ flags) =
    let word = cond flag 1 0 + 2 * word_of flags in
    let low : word % 2 ≡ cond flag 1 0 = omega (arith, bit_below flag) in
    let rest : word / 2 ≡ word_of flags = omega (arith, bit_below flag) in
    ones_step word ∙ rw (low, rest, ones_word flags)

-- so have the first n words of marks
ones_words : (flags : List Bool) (n : ℕ) → total ones (tabulate (word_at flags) n) ≡ set_flags (take (64 * n) flags)
unfolding tabulate total word_at
ones_words flags zero = refl
ones_words flags (suc n) =
    let more : 64 * suc n ≡ 64 * n + 64 = omega arith in
    rw (total-append ones (tabulate (word_at flags) n), more, take-add (64 * n) 64 flags, total-append (λ flag. cond flag 1 0) (take (64 * n) flags), ones_word (take 64 (drop (64 * n) flags)))
    (omega (arith, ones_words flags n))

pub ones_marks : (flags : List Bool) → length flags ≤ 512 → total ones (marks flags) ≡ set_flags flags
unfolding marks
ones_marks flags h = ones_words flags 8 ∙ ap set_flags (take_all 512 flags h)

module _ (fates : List ℕ) where
  pub length-mark_words : length (mark_words fates) ≡ 8
  unfolding mark_words marks
  length-mark_words = length-tabulate (word_at (map is_marked fates)) 8

  -- bit i of the marks is record i's
  pub marked_at : (old : List ℕ) (i : ℕ) → i < 512 → get_or (written (mark_words fates) old) (i / 64) 0 / 2 ^ (i % 64) % 2 ≡ cond (is_marked (get_or fates i 0)) 1 0
  unfolding mark_words
  marked_at old i below =
      rw (get_or-append (mark_words fates) (drop (length (mark_words fates)) old) 0 (i / 64) (rw length-mark_words (omega arith)))
      (mark_at (map is_marked fates) i below ∙ ap (λ flag. cond flag 1 0) (get_or-map is_marked fates i 0))

  -- the ones of the marks are the rejections other than Downsampled
  pub marked_ones : (old : List ℕ) → length fates ≤ 512 → total ones (take 8 (written (mark_words fates) old)) ≡ marked_rejections fates
  unfolding mark_words marked_rejections
  marked_ones old h =
      rw (take-written (mark_words fates) old 8 length-mark_words)
      (ones_marks (map is_marked fates) (rw (length-map fates is_marked) h) ∙ total-map (λ flag. cond flag 1 0) is_marked fates)
