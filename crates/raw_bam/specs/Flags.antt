-- The bits of a record's flags: SAM specification, section 1.4, the table of FLAG. The names are the Rust's.
use Rattle.std.specs.Prelude.{Bool, ℕ, ◌/◌, ◌%◌, eqb}

-- template having multiple segments in sequencing
abbrev pub paired_flag : ℕ
paired_flag = 0x1

-- SEQ being reverse complemented
abbrev pub reverse_flag : ℕ
reverse_flag = 0x10

-- the first segment in the template
abbrev pub first_segment_flag : ℕ
first_segment_flag = 0x40

-- secondary alignment
abbrev pub secondary_flag : ℕ
secondary_flag = 0x100

-- supplementary alignment
abbrev pub supplementary_flag : ℕ
supplementary_flag = 0x800

-- the bit is set in the flags
abbrev pub has_flag : ℕ → ℕ → Bool
has_flag flags bit = eqb (flags / bit % 2) 1
