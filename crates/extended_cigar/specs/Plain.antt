-- Document 02, Req 08, 'Convert back by turning both into M and joining neighbouring M's'.
use Rattle.std.specs.Prelude.{Bool, cond, ◌&&◌, List, map, ℕ, ◌*◌, eqb}
use Rattle.raw_bam.specs.Cigar.{op_length}
use Rattle.raw_bam.specs.Simplified.{joined_by}
use Rattle.extended_cigar.specs.Extended.{is_extended}

-- 'turning both into M': = and X of that length, every other operation as it is
unfoldable pub plain_word : ℕ → ℕ
plain_word word = cond (is_extended word) (op_length word * 16) word

-- M and M join, and no other kinds
abbrev pub both_m : ℕ → ℕ → Bool
both_m code next = eqb code 0 && eqb next 0

-- 'the plain list with neighbouring M's joined'
abbrev pub joined_m : List ℕ → List ℕ
joined_m xs = joined_by both_m xs

-- 'Convert back': the way back
unfoldable pub plain : List ℕ → List ℕ
plain words = joined_m (map plain_word words)
