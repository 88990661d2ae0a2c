-- Columns that are lent, as the strand or the duplex that they hold.
use Rattle.std.specs.Prelude.{◌≡◌, ℕ, take}
use Rattle.codec_duplex.specs.Columns.{Strand, strand}
use Rattle.codec_duplex.specs.Duplex.{Duplex, duplex}
use Rattle.codec_duplex.specs.Kept.{Kept, kept, read, read_duplex}
use Rattle.codec_duplex.specs.Units.{Coding}
use Rattle.codec_duplex.specs.declared.strand.Strand.{Strand as Lent}
use Rattle.codec_duplex.specs.declared.strand.StrandMut.{StrandMut as LentMut}

-- lent to be read
abbrev pub kept_of : {U : Type 0} → Lent U → Kept U
kept_of s = kept s.bases.now s.quals.now s.depths.now s.errors.now

-- the strand that it holds
abbrev pub held : {U : Type 0} → Coding U → Lent U → Strand
held l s = read l (kept_of s)

-- the same where the counts are 16-bit numbers
abbrev pub strand_of : Lent ℕ → Strand
strand_of s = strand s.bases.now s.quals.now s.depths.now s.errors.now

-- lent to be written into
abbrev pub kept_in : {U : Type 0} → LentMut U → Kept U
kept_in s = kept s.bases.now s.quals.now s.depths.now s.errors.now

abbrev pub held_in : {U : Type 0} → Coding U → LentMut U → Duplex
held_in l s = read_duplex l (kept_in s)

abbrev pub strand_in : LentMut ℕ → Strand
strand_in s = strand s.bases.now s.quals.now s.depths.now s.errors.now

abbrev pub duplex_in : LentMut ℕ → Duplex
duplex_in s = duplex s.bases.now s.quals.now s.depths.now s.errors.now

abbrev pub first_places : ℕ → Strand → Strand
first_places n s = strand (take n s.bases) (take n s.quals) (take n s.depths) (take n s.errors)

-- the columns stay the same ones, whatever is written into them
pub record SameLoans {U : Type 0} (old new : LentMut U) : Type 0 where
  pub bases : new.bases.ghost_name ≡ old.bases.ghost_name
  pub quals : new.quals.ghost_name ≡ old.quals.ghost_name
  pub depths : new.depths.ghost_name ≡ old.depths.ghost_name
  pub errors : new.errors.ghost_name ≡ old.errors.ghost_name
