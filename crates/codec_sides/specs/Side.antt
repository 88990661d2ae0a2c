-- One side of a family, a list of record numbers, in document 01's steps 4 to 6, 'A family'.
use Rattle.std.specs.Prelude.{Bool, cond, not, List, [], ◌∷◌, map, ℕ, suc, ◌+◌, ◌≤◌, ◌<◌, max, eqb, ℤ, pos, length, get_or}
use Rattle.codec_records.specs.Side.{kept}
use Rattle.lists.specs.Tabulate.{tabulate}
use Rattle.caller.specs.Fates.{undecided_number, first_fate}
use Rattle.caller.specs.Ranking.{lowest_ranking}
use Rattle.caller.specs.Reasons.{number_of}
use Rattle.caller.specs.declared.reason.RejectionReason.TheVariants.{Downsampled}
use Rattle.raw_bam.specs.Cigar.{part_of, reference_length}
use Rattle.raw_bam.specs.Flags.{reverse_flag, has_flag}
use Rattle.lists.specs.Member.{is_in}
use Rattle.vanilla_caller.specs.Group.{staying}
use Rattle.vanilla_caller.specs.Side.{list_of}
use Rattle.codec_records.specs.declared.options.Options.{Options}

-- record r is in the columns, and its operations, at most 64, lie in the slice
pub record HasOperations (ops starts counts : List ℕ) (r : ℕ) : Type 0 where
  pub has_start : r < length starts
  pub has_count : r < length counts
  pub part : get_or starts r 0 + get_or counts r 0 ≤ length ops
  pub short : get_or counts r 0 ≤ 64

-- so is every record of a side
abbrev pub HaveOperations : List ℕ → List ℕ → List ℕ → List ℕ → Type 0
HaveOperations ops starts counts side = (k : ℕ) → k < length side → HasOperations ops starts counts (get_or side k 0)

-- what a column says of each record of a side
abbrev pub gathered : {A : Type 0} → A → List A → List ℕ → List A
gathered d column side = map (λ r. get_or column r d) side

-- each record's own orientation, flag 16
abbrev pub orientations : List ℕ → List Bool
orientations flags = map (λ own. has_flag own reverse_flag) flags

-- step 4: for each record of a side whether it is in the alignment group
unfoldable pub in_group : List ℕ → List ℕ → List ℕ → List ℕ → List ℕ → List ℕ → List Bool
in_group ops clipped starts counts flags side =
    staying (gathered 0 clipped side) (λ k. get_or (map (list_of ops starts counts (orientations flags)) side) k [])

-- step 5: for each record of a side whether it stays under the read cap
unfoldable pub under_cap : List ℤ → ℕ → List ℕ → List Bool
under_cap ranks cap side = lowest_ranking (gathered (pos 0) ranks side) cap

-- those that do not
abbrev pub dropped : List ℕ → List Bool → List ℕ
dropped side stays = kept side (map not stays)

-- a fate falls on each record in a list that has none yet: 'A record keeps its first fate'
unfoldable pub given_fate : ℕ → List ℕ → List ℕ → List ℕ
given_fate fate records fates =
    tabulate (λ r. cond (is_in r records) (first_fate fate (get_or fates r undecided_number)) (get_or fates r undecided_number)) (length fates)

-- the records of a side under the cap, where there is one
unfoldable pub capped : Options → List ℤ → List ℕ → List ℕ
capped o ranks side = cond o.has_max_reads_per_strand (kept side (under_cap ranks o.max_reads_per_strand side)) side

-- the excess is Downsampled
unfoldable pub with_excess : Options → List ℤ → List ℕ → List ℕ → List ℕ
with_excess o ranks side fates =
    cond o.has_max_reads_per_strand
    (given_fate (number_of Downsampled) (dropped side (under_cap ranks o.max_reads_per_strand side)) fates)
    fates

-- the operations of record r, and the reference bases that they cover
abbrev pub operations_of : List ℕ → List ℕ → List ℕ → ℕ → List ℕ
operations_of ops starts counts r = part_of ops (get_or starts r 0) (get_or counts r 0)

unfoldable pub reference_bases_of : List ℕ → List ℕ → List ℕ → ℕ → ℕ
reference_bases_of ops starts counts r = reference_length (operations_of ops starts counts r)

-- the largest number of a list
unfoldable pub most : List ℕ → ℕ
most [] = 0
most (x ∷ xs) = max x (most xs)

-- the first place of a number in a list
unfoldable pub place_of : ℕ → List ℕ → ℕ
place_of x [] = 0
place_of x (y ∷ ys) = cond (eqb y x) 0 (suc (place_of x ys))

-- the earliest of those that have most
unfoldable pub place_of_most : List ℕ → ℕ
place_of_most xs = place_of (most xs) xs

-- step 6: the place of a side's longest, which has most reference bases, the earliest at a tie
unfoldable pub longest_of : List ℕ → List ℕ → List ℕ → List ℕ → ℕ
longest_of ops starts counts side = place_of_most (map (reference_bases_of ops starts counts) side)
