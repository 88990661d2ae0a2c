-- Document 01, 'The answers': marks are one bit a record in eight 64-bit words.
use Rattle.std.specs.Prelude.{Bool, false, cond, ◌||◌, List, [], ◌∷◌, ℕ, ◌+◌, ◌*◌, length, get_or, take, drop}
use Rattle.lists.specs.Tabulate.{tabulate}
use Rattle.lists.specs.Member.{is_in}

-- the number whose bits are the flags, bit 0 lowest
unfoldable pub word_of : List Bool → ℕ
word_of [] = 0
word_of (flag ∷ flags) = cond flag 1 0 + 2 * word_of flags

-- record i, from 0, is bit i mod 64 of word i / 64
unfoldable pub word_at : List Bool → ℕ → ℕ
word_at flags w = word_of (take 64 (drop (64 * w) flags))

unfoldable pub marks : List Bool → List ℕ
marks flags = tabulate (word_at flags) 8

-- flags, where those of the records in a list are set
unfoldable pub flagged : List ℕ → List Bool → List Bool
flagged records flags = tabulate (λ r. is_in r records || get_or flags r false) (length flags)

-- for each of n records whether it is one of a side's
unfoldable pub side_flags : List ℕ → ℕ → List Bool
side_flags side n = tabulate (λ i. is_in i side) n
