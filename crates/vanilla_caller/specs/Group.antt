-- Document 01, 'Alignment group'. A side is given by its clipped lengths and by the simplified list of each record.
use Rattle.std.specs.Prelude.{Bool, true, ◌||◌, ◌&&◌, if◌then◌else◌, List, [], ◌∷◌, ◌++◌, map, ℕ, nat_lt, nat_eq, length}
use Rattle.std.specs.List.{list_any}
use Rattle.lists.specs.Member.{is_in}
use Rattle.lists.specs.Tabulate.{tabulate}
use Rattle.raw_bam.specs.Prefix.{is_prefix, smaller}
use Rattle.vanilla_caller.specs.Order.{by_length}

-- a group: its first list, and its records
pub record Group : Type 0 where
  pub first : List ℕ
  pub members : List ℕ

-- a list is a prefix of a group's first
abbrev pub fits : List ℕ → Group → Bool
fits list g = is_prefix list g.first

-- a record joins the group if its list is
abbrev pub joined_by : List ℕ → ℕ → Group → Group
joined_by list i g = if fits list g then record g { members = g.members ++ (i ∷ []) } else g

-- a record joins every group that its list fits, or else founds one
unfoldable pub join_or_found : List ℕ → ℕ → List Group → List Group
join_or_found list i groups =
    if list_any (fits list) groups then map (joined_by list i) groups else (groups ++ (record { first = list; members = i ∷ [] } ∷ []))

-- the groups after each record has joined or founded, one after the other
unfoldable pub groups_after : (ℕ → List ℕ) → List ℕ → List Group → List Group
groups_after lists [] groups = groups
groups_after lists (i ∷ is) groups = groups_after lists is (join_or_found (lists i) i groups)

-- the larger of two groups wins; at a tie that with the smaller first list
abbrev pub larger : ℕ → List ℕ → ℕ → List ℕ → Bool
larger size first other_size other_first = nat_lt other_size size || nat_eq size other_size && smaller first other_first

abbrev pub beats : Group → Group → Bool
beats g h = larger (length g.members) g.first (length h.members) h.first

-- the winner of the groups and of one more
unfoldable pub winner : Group → List Group → Group
winner best [] = best
winner best (g ∷ gs) = winner (if beats g best then g else best) gs

-- a group of no records, which every group wins over
abbrev pub no_group : Group
no_group = record { first = []; members = [] }

-- the group that stays, of the first n records
unfoldable pub most_common : List ℕ → (ℕ → List ℕ) → ℕ → Group
most_common lengths lists n = winner no_group (groups_after lists (by_length lengths n) [])

-- for each record whether it stays: of fewer than two, all do
unfoldable pub staying : List ℕ → (ℕ → List ℕ) → List Bool
staying lengths lists =
    if nat_lt (length lengths) 2 then tabulate (λ _. true) (length lengths)
    else tabulate (λ i. is_in i (most_common lengths lists (length lengths)).members) (length lengths)
