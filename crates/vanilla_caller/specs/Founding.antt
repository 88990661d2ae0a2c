-- Only inner contracts need this file. The groups from their founders' side: a record that no earlier group takes founds one, and takes all records after it whose
-- list is a prefix of its own. `proofs/Groups.antt` shows that these are the groups of the rule.
use Rattle.std.specs.Prelude.{if◌then◌else◌, List, [], ◌∷◌, ◌++◌, ℕ, slice_index, filter, drop}
use Rattle.std.specs.List.{list_any}
use Rattle.raw_bam.specs.Prefix.{is_prefix}
use Rattle.vanilla_caller.specs.Group.{Group}

module _ (lists : ℕ → List ℕ) where
  -- the records whose list is a prefix of a group's first
  abbrev pub matches : List ℕ → List ℕ → List ℕ
  matches first is = filter (λ i. is_prefix (lists i) first) is

  -- the groups that the records found, where groups with these first lists are there before
  unfoldable pub founded : List ℕ → List (List ℕ) → List Group
  founded [] firsts = []
  founded (i ∷ is) firsts =
      if list_any (is_prefix (lists i)) firsts then founded is firsts
      else (record { first = lists i; members = i ∷ matches (lists i) is } ∷ founded is (firsts ++ (lists i ∷ [])))

  -- the group that the record at a place of the order founds
  abbrev pub group_at : List ℕ → ℕ → Group
  group_at order k = record { first = lists (slice_index order k); members = matches (lists (slice_index order k)) (drop k order) }
