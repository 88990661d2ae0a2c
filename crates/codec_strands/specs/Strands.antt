-- Document 01, 'Padding, orientation, masks': reverse complement and padding of a strand.
use Rattle.std.specs.Prelude.{Bool, true, cond, List, ◌++◌, map, reverse, ℕ, ◌-◌, ◌≤◌, eqb, length, replicate}
use Rattle.lists.specs.Written.{written}
use Rattle.codec_duplex.specs.Columns.{Strand, strand}
use Rattle.codec_strands.specs.declared.layout.Layout.{Layout}

-- exchanges A with T and C with G, keeps N and n (and every other byte, which no strand has)
abbrev pub complement : ℕ → ℕ
complement base = cond (eqb base 65) 84 (cond (eqb base 84) 65 (cond (eqb base 67) 71 (cond (eqb base 71) 67 base)))

-- a column, reversed or as it is
abbrev pub turned : {A : Type 0} → (reversed : Bool) → List A → List A
turned reversed xs = cond reversed (reverse xs) xs

-- a column of bases, reverse complemented or as it is
abbrev pub turned_bases : (reversed : Bool) → List ℕ → List ℕ
turned_bases reversed bases = cond reversed (reverse (map complement bases)) bases

-- reverse complement exchanges the bases and reverses all columns
abbrev pub oriented : (reversed : Bool) → Strand → Strand
oriented reversed s =
    strand (turned_bases reversed s.bases) (turned reversed s.quals) (turned reversed s.depths) (turned reversed s.errors)

abbrev pub reverse_complement : Strand → Strand
reverse_complement s = oriented true s

-- a column with padding on the left or on the right up to n places; one as long or longer is kept
abbrev pub padded : {A : Type 0} → (left : Bool) (pad : A) (n : ℕ) → List A → List A
padded left pad n xs = cond left (replicate (n - length xs) pad ++ xs) (xs ++ replicate (n - length xs) pad)

-- padding is n, 0, 0, 0
abbrev pub padded_strand : (left : Bool) (n : ℕ) → Strand → Strand
padded_strand left n s =
    strand (padded left 110 n s.bases) (padded left 0 n s.quals) (padded left 0 n s.depths) (padded left 0 n s.errors)

-- a column, the bases and a strand as they lie among the duplex's places
abbrev pub laid_column : {A : Type 0} → Layout → (pad : A) → List A → List A
laid_column layout pad xs = padded layout.left pad layout.length (turned layout.reversed xs)

abbrev pub laid_bases : Layout → List ℕ → List ℕ
laid_bases layout bases = padded layout.left 110 layout.length (turned_bases layout.reversed bases)

abbrev pub laid : Layout → Strand → Strand
laid layout s = padded_strand layout.left layout.length (oriented layout.reversed s)

-- the strand fills the first places of four columns
abbrev pub written_strand : (s before : Strand) → Strand
written_strand s before =
    strand
    (written s.bases before.bases)
    (written s.quals before.quals)
    (written s.depths before.depths)
    (written s.errors before.errors)

-- no column has more than n places
pub record Within (n : ℕ) (s : Strand) : Type 0 where
  pub bases : length s.bases ≤ n
  pub quals : length s.quals ≤ n
  pub depths : length s.depths ≤ n
  pub errors : length s.errors ≤ n

-- no column has less than n places
pub record StrandRoom (n : ℕ) (s : Strand) : Type 0 where
  pub bases : n ≤ length s.bases
  pub quals : n ≤ length s.quals
  pub depths : n ≤ length s.depths
  pub errors : n ≤ length s.errors
