-- Document 01's table of cases: case G1 of 'Alignment group' and the P cases of 'Position combination'.
use Rattle.std.specs.Prelude.{Bool, true, false, cond, ◌&&◌, List, [], ◌∷◌, ℕ, ◌+◌, ◌*◌, eqb, get_or}
use Prim.Native.Char.{code}
use Rattle.raw_bam.specs.Cigar.{read_length}
use Rattle.raw_bam.specs.Simplified.{simplified}
use Rattle.vanilla_caller.specs.Group.{staying}
use Rattle.codec_duplex.specs.Position.{combined}
use Rattle.codec_duplex.specs.declared.position.Position.{Position}

-- a row: two positions and their duplex; or the CIGARs of a side and which of them stay
pub data Case : Type 0 where
  position : (first second result : Position) → Case
  group : (cigars : List (List ℕ)) (stays : List Bool) → Case

-- base, quality, depth, error
abbrev pos : ℕ → ℕ → ℕ → ℕ → Position
pos base quality depth error = record { base = base; quality = quality; depth = depth; error = error }

-- an operation's word: length × 16 + code
abbrev M : ℕ → ℕ
M length = length * 16

abbrev I : ℕ → ℕ
I length = length * 16 + 1

abbrev D : ℕ → ℕ
D length = length * 16 + 2

unfoldable pub cases : List Case
cases =
    -- P1, P2, P4, P5, P8, P10, P11, P12, P13
    position (pos (code "A") 30 5 1) (pos (code "A") 20 4 0) (pos (code "A") 50 9 1)
    ∷ position (pos (code "A") 30 5 1) (pos (code "C") 20 4 1) (pos (code "A") 10 9 4)
    ∷ position (pos (code "A") 20 5 2) (pos (code "C") 20 4 1) (pos (code "N") 2 9 5)
    ∷ position (pos (code "A") 1 1 0) (pos (code "A") 1 1 0) (pos (code "N") 2 2 0)
    ∷ position (pos (code "A") 2 3 0) (pos (code "n") 0 0 0) (pos (code "N") 2 3 0)
    ∷ position (pos (code "A") 30 3 1) (pos (code "N") 2 2 0) (pos (code "N") 2 3 1)
    ∷ position (pos (code "A") 30 40000 40000) (pos (code "n") 0 0 0) (pos (code "A") 30 40000 40000)
    ∷ position (pos (code "A") 30 40000 20000) (pos (code "A") 30 40000 20000) (pos (code "A") 60 65534 32767)
    ∷ position (pos (code "A") 30 2 3) (pos (code "C") 20 1 4) (pos (code "A") 10 3 3)
    -- G1: 6M2D6M, 6M1I5M, 5M keep the second and third
    ∷ group ((M 6 ∷ D 2 ∷ M 6 ∷ []) ∷ (M 6 ∷ I 1 ∷ M 5 ∷ []) ∷ (M 5 ∷ []) ∷ []) (false ∷ true ∷ true ∷ [])
    ∷ []

abbrev same : Position → Position → Bool
same p q = eqb p.base q.base && eqb p.quality q.quality && eqb p.depth q.depth && eqb p.error q.error

abbrev same_flags : List Bool → List Bool → Bool
same_flags [] [] = true
same_flags [] (y ∷ ys) = false
same_flags (x ∷ xs) [] = false
same_flags (x ∷ xs) (y ∷ ys) = cond x y (cond y false true) && same_flags xs ys

-- the read bases of each CIGAR, its clipped length
abbrev lengths : List (List ℕ) → List ℕ
lengths [] = []
lengths (cigar ∷ cigars) = read_length cigar ∷ lengths cigars

-- the definitions give what the row says
unfoldable pub holds : Case → Bool
holds (position first second result) = same (combined first second) result
holds (group cigars stays) = same_flags (staying (lengths cigars) (λ i. simplified false (get_or cigars i []))) stays
