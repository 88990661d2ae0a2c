-- The groups that records found are those that the rule makes of the records in turn.
use Rattle.std.proofs.Common.{Bool, true, false, ◌||◌, if◌then◌else◌, List, [], ◌∷◌, ◌++◌, map, append_assoc, append-nil, ◌≡◌, refl, sym, ◌∙◌, ap, ℕ, ◌+◌, ◌<◌, add-one, length, slice_index, drop}
use mathlib.Core.List.{map-append}
use mathlib.Core.Path.{ap₂}
use Rattle.std.specs.List.{list_any}
use Rattle.std.proofs.Math.Seq.{drop-cons}
use Rattle.std.proofs.lemmas.Bool.{or_parts}
use Rattle.raw_bam.specs.Prefix.{is_prefix}
use Rattle.raw_bam.proofs.Prefixes.{prefix_self}
use Rattle.vanilla_caller.specs.Founding.{matches, founded, group_at}
use Rattle.vanilla_caller.specs.Group.{Group, fits, joined_by, join_or_found, groups_after}

abbrev first_of : Group → List ℕ
first_of g = g.first

fits-first : (list : List ℕ) (groups : List Group) → list_any (fits list) groups ≡ list_any (is_prefix list) (map first_of groups)
fits-first list [] = refl
fits-first list (g ∷ groups) = ap (λ (b : Bool). fits list g || b) (fits-first list groups)

module _ (lists : ℕ → List ℕ) where
  -- a group with those of the records that it takes
  abbrev grown : List ℕ → Group → Group
  grown is g = record g { members = g.members ++ matches lists g.first is }

  first-joined_by : (i : ℕ) (groups : List Group) → map first_of (map (joined_by (lists i) i) groups) ≡ map first_of groups
  first-joined_by i [] = refl
  first-joined_by i (g ∷ groups) = ap₂ {C = List (List ℕ)} (λ f fs. f ∷ fs) (same (fits (lists i) g)) (first-joined_by i groups)
    where
      same : (b : Bool) → (if b then record g { members = g.members ++ (i ∷ []) } else g).first ≡ g.first
      same true = refl
      same false = refl

  grown-joined_by : (i : ℕ) (is : List ℕ) (g : Group) → grown is (joined_by (lists i) i g) ≡ grown (i ∷ is) g
  grown-joined_by i is g = by_prefix (fits (lists i) g)
    where
      by_prefix : (b : Bool) → grown is (if b then record g { members = g.members ++ (i ∷ []) } else g)
          ≡ record g { members = g.members ++ (if b then i ∷ matches lists g.first is else matches lists g.first is) }
      by_prefix true = λ k. record g { members = append_assoc g.members (i ∷ []) (matches lists g.first is) k }
      by_prefix false = refl

  map-grown-joined_by : (i : ℕ) (is : List ℕ) (groups : List Group) → map (grown is) (map (joined_by (lists i) i) groups) ≡ map (grown (i ∷ is)) groups
  map-grown-joined_by i is [] = refl
  map-grown-joined_by i is (g ∷ groups) = ap₂ {C = List Group} (λ h hs. h ∷ hs) (grown-joined_by i is g) (map-grown-joined_by i is groups)

  -- a record that no group takes leaves them as they are
  map_grown_none : (i : ℕ) (is : List ℕ) (groups : List Group) → list_any (fits (lists i)) groups ≡ false → map (grown is) groups ≡ map (grown (i ∷ is)) groups
  map_grown_none i is [] e = refl
  map_grown_none i is (g ∷ groups) e =
      let neither = or_parts (fits (lists i) g) (list_any (fits (lists i)) groups) e in
      rw neither.0 (ap (λ (gs : List Group). grown is g ∷ gs) (map_grown_none i is groups neither.1))

  map_grown_nil : (groups : List Group) → groups ≡ map (grown []) groups ++ []
  map_grown_nil [] = refl
  map_grown_nil (g ∷ groups) = ap₂ {C = List Group} (λ h hs. h ∷ hs) (λ k. record g { members = sym (append-nil g.members) k }) (map_grown_nil groups)

  -- the rule's groups are those that were there, grown, and those that the records found
  after_founded : (is : List ℕ) (groups : List Group) → groups_after lists is groups ≡ map (grown is) groups ++ founded lists is (map first_of groups)
  unfolding join_or_found groups_after founded
  after_founded [] groups = map_grown_nil groups
  after_founded (i ∷ is) groups = by_fit (list_any (fits (lists i)) groups) refl (after_founded is)
    where
      by_fit : (b : Bool) → list_any (fits (lists i)) groups ≡ b → ((gs : List Group) → groups_after lists is gs ≡ map (grown is) gs ++ founded lists is (map first_of gs))
          → groups_after lists is (join_or_found (lists i) i groups) ≡ map (grown (i ∷ is)) groups ++ founded lists (i ∷ is) (map first_of groups)
      by_fit true p rest =
          rw (p, ← fits-first (lists i) groups, p, rest (map (joined_by (lists i) i) groups), map-grown-joined_by i is groups, first-joined_by i groups)
      by_fit false p rest =
          let new : Group = record { first = lists i; members = i ∷ [] } in
          let none : list_any (is_prefix (lists i)) (map first_of groups) ≡ false = sym (fits-first (lists i) groups) ∙ p in
          rw (p, none, rest (groups ++ (new ∷ [])), map-append, map-append, ← map_grown_none i is groups p)
          (append_assoc (map (grown is) groups) (grown is new ∷ []) (founded lists is (map first_of groups ++ (lists i ∷ []))))

  pub groups_founded : (is : List ℕ) → groups_after lists is [] ≡ founded lists is []
  groups_founded is = after_founded is []

  -- a founder is in its own group
  pub matches_own : (order : List ℕ) (k : ℕ) → k < length order
      → matches lists (lists (slice_index order k)) (drop k order) ≡ slice_index order k ∷ matches lists (lists (slice_index order k)) (drop (k + 1) order)
  matches_own order k h = rw (add-one k, drop-cons order k 0, prefix_self (lists (slice_index order k)))

  -- the groups that the records from a place on found
  pub founded_step : (order : List ℕ) (firsts : List (List ℕ)) (k : ℕ) → k < length order
      → founded lists (drop k order) firsts
      ≡ (if list_any (is_prefix (lists (slice_index order k))) firsts then founded lists (drop (k + 1) order) firsts
      else (group_at lists order k ∷ founded lists (drop (k + 1) order) (firsts ++ (lists (slice_index order k) ∷ []))))
  unfolding founded
  founded_step order firsts k h = rw (matches_own order k h, add-one k, drop-cons order k 0)
