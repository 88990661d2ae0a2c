-- Document 01, 'A family', steps 1 and 2. A family is given by its columns: flags, name numbers, pair verdicts.
use Rattle.std.specs.Prelude.{Bool, false, cond, not, ◌&&◌, ◌||◌, List, [], ◌∷◌, map, ◌≡◌, ℕ, ◌-◌, eqb, length, get_or}
use Rattle.lists.specs.Numbers.{numbers_from}
use Rattle.caller.specs.Reasons.{number_of}
use Rattle.caller.specs.declared.reason.RejectionReason.TheVariants.{FragmentRead, NotPrimaryFrPair}
use Rattle.raw_bam.specs.Flags.{paired_flag, first_segment_flag, secondary_flag, supplementary_flag, has_flag}
use Rattle.caller.specs.Fates.{undecided_number, passed_over_number}

-- the columns are equally long
pub record Columns (flags names : List ℕ) (verdicts : List Bool) : Type 0 where
  pub as_many_names : length names ≡ length flags
  pub as_many_verdicts : length verdicts ≡ length flags

-- step 1: flag 256 or 2048, which SAM calls not primary
abbrev pub not_primary : ℕ → Bool
not_primary flags = has_flag flags secondary_flag || has_flag flags supplementary_flag

-- step 2 is of the records that remain: paired, and not passed over
abbrev pub remains : ℕ → Bool
remains flags = has_flag flags paired_flag && not (not_primary flags)

-- record i has the name, and remains
unfoldable pub is_namesake : List ℕ → List ℕ → ℕ → ℕ → Bool
is_namesake flags names name i = eqb (get_or names i 0) name && remains (get_or flags i 0)

-- the remaining records of a name, in order, from record i on
unfoldable pub namesakes_from : List ℕ → List ℕ → ℕ → ℕ → List ℕ
namesakes_from flags names name i = numbers_from (is_namesake flags names name) i (length flags - i)

-- all of those with record i's name
abbrev pub namesakes : List ℕ → List ℕ → ℕ → List ℕ
namesakes flags names i = namesakes_from flags names (get_or names i 0) 0

-- step 2: the remaining records of a name are two, and the earlier one's verdict is yes
unfoldable pub is_pair : List Bool → List ℕ → Bool
is_pair verdicts [] = false
is_pair verdicts (only ∷ []) = false
is_pair verdicts (earlier ∷ later ∷ []) = get_or verdicts earlier false
is_pair verdicts (one ∷ two ∷ three ∷ more) = false

-- step 2: record i is *entered*
unfoldable pub is_entered : List ℕ → List ℕ → List Bool → ℕ → Bool
is_entered flags names verdicts i = remains (get_or flags i 0) && is_pair verdicts (namesakes flags names i)

-- what steps 1 and 2 make of record i
unfoldable pub fate_of : List ℕ → List ℕ → List Bool → ℕ → ℕ
fate_of flags names verdicts i =
    cond (not (has_flag (get_or flags i 0) paired_flag)) (number_of FragmentRead)
    (cond (not_primary (get_or flags i 0)) passed_over_number
    (cond (is_entered flags names verdicts i) undecided_number (number_of NotPrimaryFrPair)))

-- record i stands first
unfoldable pub is_first : ℕ → List ℕ → Bool
is_first i [] = false
is_first i (first ∷ rest) = eqb first i

-- record i is the earlier of an entered pair, with which its name appears first among the remaining records
unfoldable pub opens_pair : List ℕ → List ℕ → List Bool → ℕ → Bool
opens_pair flags names verdicts i = is_entered flags names verdicts i && is_first i (namesakes flags names i)

-- the earlier record of each entered pair: 'names in order of first appearance'
unfoldable pub earlier_records : List ℕ → List ℕ → List Bool → List ℕ
earlier_records flags names verdicts = numbers_from (opens_pair flags names verdicts) 0 (length flags)

-- the later record of the pair whose earlier one is record i
unfoldable pub later_of : List ℕ → List ℕ → ℕ → ℕ
later_of flags names i = get_or (namesakes flags names i) 1 0

-- 'the earlier is R1 if its flag 64 is set, else the later'
unfoldable pub r1_of : List ℕ → List ℕ → ℕ → ℕ
r1_of flags names i = cond (has_flag (get_or flags i 0) first_segment_flag) i (later_of flags names i)

unfoldable pub r2_of : List ℕ → List ℕ → ℕ → ℕ
r2_of flags names i = cond (has_flag (get_or flags i 0) first_segment_flag) (later_of flags names i) i

-- 'a side's given order is that of its names'
unfoldable pub side_r1 : List ℕ → List ℕ → List Bool → List ℕ
side_r1 flags names verdicts = map (r1_of flags names) (earlier_records flags names verdicts)

unfoldable pub side_r2 : List ℕ → List ℕ → List Bool → List ℕ
side_r2 flags names verdicts = map (r2_of flags names) (earlier_records flags names verdicts)
