-- Document 01, 'A family': the fate of a record, a number. A rejected record's fate is its reason's number, 1 to 10.
use Rattle.std.specs.Prelude.{Bool, cond, not, ◌&&◌, ℕ, eqb, leb}
use Rattle.caller.specs.Reasons.{number_of}
use Rattle.caller.specs.declared.reason.RejectionReason.TheVariants.{Downsampled}

-- a record that has no fate yet
abbrev pub undecided_number : ℕ
undecided_number = 0

-- step 1: a record that is passed over, and is no rejection
abbrev pub passed_over_number : ℕ
passed_over_number = 11

-- step 8: 'no strand, no rejection'
abbrev pub no_strand_number : ℕ
no_strand_number = 12

-- 'used where a duplex is called'
abbrev pub used_number : ℕ
used_number = 13

-- 'A record keeps its first fate': a later one falls only on a record that has none yet
abbrev pub first_fate : (later fate : ℕ) → ℕ
first_fate later fate = cond (eqb fate undecided_number) later fate

-- 'Reasons 1 to 10': a rejection
abbrev pub is_rejection : ℕ → Bool
is_rejection fate = leb 1 fate && leb fate 10

-- a rejection other than Downsampled, which is 'counted and never marked'
abbrev pub is_marked : ℕ → Bool
is_marked fate = is_rejection fate && not (eqb fate (number_of Downsampled))
