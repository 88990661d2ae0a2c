-- Laws of a strand's geometry: what turning round twice, padding and the outer mask do.
use mathlib.Core.Bool.{Bool, true, false, cond}
use mathlib.Core.List.{List, [], ◌∷◌, ◌++◌, append-nil, map, reverse-reverse}
use mathlib.Core.Path.{◌≡◌, refl, ◌∙◌, ap}
use Prim.Native.Nat.{ℕ, ◌-◌, ◌≤◌, ◌<◌, zero-le}
use native.Mathlib.Omega.{arith}
use borrow.Author.Tests.{lt-ltb, le-ltb}
use lib.ListN.{length, take, drop, replicate, length-replicate}
use lib.Seq.{take_at, take-length, drop_at}
use Rattle.lists.proofs.Reverse.{map-reverse}
use Rattle.lists.proofs.Tabulate.{length-tabulate}
use Rattle.codec_duplex.specs.Columns.{Strand, strand}
use Rattle.codec_strands.specs.Masks.{outermost, masked_at, masked}
use Rattle.codec_strands.specs.Strands.{complement, reverse_complement, padded}
use Rattle.codec_strands.specs.declared.mask.Masks.{Masks}
use Rattle.codec_strands.proofs.Complement.{complement_twice}

bases_twice : (bases : List ℕ) → map complement (map complement bases) ≡ bases
bases_twice [] = refl
bases_twice (base ∷ bases) = rw (complement_twice base, bases_twice bases)

-- reverse complementing twice gives the strand back
pub reverse_complement_twice : (s : Strand) → reverse_complement (reverse_complement s) ≡ s
reverse_complement_twice s =
    rw (map-reverse complement (map complement s.bases), bases_twice s.bases, reverse-reverse s.bases, reverse-reverse s.quals, reverse-reverse s.depths, reverse-reverse s.errors)

pub same_columns : {bases bases' quals quals' depths depths' errors errors' : List ℕ} → bases ≡ bases' → quals ≡ quals' → depths ≡ depths' → errors ≡ errors'
    → strand bases quals depths errors ≡ strand bases' quals' depths' errors'
same_columns b q d e = rw (b, q, d, e)

module _ {A : Type 0} (pad : A) (n : ℕ) (xs : List A) where
  -- padding keeps what was there
  pub padded_keeps : (left : Bool) → take (length xs) (drop (cond left (n - length xs) 0) (padded left pad n xs)) ≡ xs
  padded_keeps true =
      ap (take (length xs)) (drop_at (replicate (n - length xs) pad) xs (n - length xs) (length-replicate (n - length xs) pad)) ∙ take-length xs
  padded_keeps false = take_at xs (replicate (n - length xs) pad) (length xs) refl

  -- a column as long or longer is kept
  pub padded_long : (left : Bool) → n ≤ length xs → padded left pad n xs ≡ xs
  padded_long left h = let none : n - length xs ≡ 0 = omega arith in rw none (by_side left)
    where
      by_side : (side : Bool) → cond side xs (xs ++ []) ≡ xs
      by_side true = refl
      by_side false = append-nil xs

-- an outer length of 0 masks nothing
pub outermost-none : (n i : ℕ) → outermost 0 n i ≡ false
outermost-none n i = simp (le-ltb i 0 zero-le, le-ltb (n - 1 - i) 0 zero-le)

-- one that is no shorter than the duplex masks everything
pub outermost-all : (outer n i : ℕ) → n ≤ outer → i < n → outermost outer n i ≡ true
outermost-all outer n i h within = let front : i < outer = omega arith in simp (lt-ltb i outer front)

pub length-masked : (masks : Masks) (a b quals : List ℕ) → length (masked masks a b quals) ≡ length quals
unfolding masked
length-masked masks a b quals = length-tabulate (masked_at masks a b quals (length quals)) (length quals)
