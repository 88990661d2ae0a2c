-- The best group so far, while the records in order found groups or pass.
use Rattle.std.proofs.Common.{Bool, true, false, ◌||◌, if◌then◌else◌, List, [], ◌∷◌, ◌++◌, ◌≡◌, refl, sym, ◌∙◌, ap, ℕ, ◌+◌, ◌≤◌, ◌<◌, length, slice_index, slice_index_or, replicate, drop, zero-le, arith}
use mathlib.Core.Bool.{true≢false}
use mathlib.Core.Logic.{⊎_elim}
use native.Mathlib.Nat.{eq-or-lt_of_le}
use borrow.Author.Tests.{lt-ltb}
use lib.ListN.{drop_of_length-le}
use Rattle.std.specs.List.{list_any}
use Rattle.std.proofs.lemmas.List.{get_or-replicate}
use Rattle.std.proofs.lemmas.List.Folds.{list_any-append}
use Rattle.raw_bam.specs.Prefix.{is_prefix}
use Rattle.vanilla_caller.specs.Founding.{founded, group_at}
use Rattle.vanilla_caller.specs.Group.{Group, larger, beats, winner, no_group}
use Rattle.vanilla_caller.specs.declared.group.Founded.{Founded}
use Rattle.vanilla_caller.proofs.Groups.{matches_own, founded_step}

-- one group more
fits_more : (list first : List ℕ) (firsts : List (List ℕ)) → list_any (is_prefix list) (firsts ++ (first ∷ [])) ≡ (is_prefix list first || list_any (is_prefix list) firsts)
fits_more list first firsts = list_any-append (is_prefix list) firsts (first ∷ []) ∙ either (is_prefix list first) (list_any (is_prefix list) firsts)
  where
    either : (a b : Bool) → (b || (a || false)) ≡ (a || b)
    either true true = refl
    either true false = refl
    either false true = refl
    either false false = refl

module _ (lists : ℕ → List ℕ) (order : List ℕ) where
  -- a record's list is a prefix of a group's first
  abbrev fits_one : List (List ℕ) → ℕ → Bool
  fits_one firsts j = list_any (is_prefix (lists (slice_index order j))) firsts

  -- at place k: the groups founded so far have these first lists, and the champion wins at the end what it wins over those
  -- still to come; before the first group there is none
  pub record Winning (firsts : List (List ℕ)) (champion : Group) (grouped : List Bool) (best : Founded) (k : ℕ) : Type 0 where
    pub within : best.place < length order
    pub sized : best.size ≡ length champion.members
    pub known : 0 < best.size → champion ≡ group_at lists order best.place
    pub begun : best.size ≡ 0 → (k ≡ 0) × (firsts ≡ [])
    pub marks : (j : ℕ) → k ≤ j → j < length order → slice_index_or grouped j false ≡ fits_one firsts j
    pub leads : winner champion (founded lists (drop k order) firsts) ≡ winner no_group (founded lists order [])

  -- no group yet
  pub none_yet : 0 < length order → length order ≤ 256 → Winning [] no_group (replicate 256 false) (record { place = 0; size = 0 }) 0
  none_yet h fits =
      record {
        within = h;
        sized = refl;
        known = λ l. absurd (omega arith);
        begun = λ e. (refl, refl);
        marks = λ j low high. get_or-replicate 256 j false false (omega arith);
        leads = refl;
      }

  module _ (firsts : List (List ℕ)) (champion : Group) (grouped : List Bool) (best : Founded) (k : ℕ) (here : k < length order)
      (so_far : Winning firsts champion grouped best k) where
    -- a record that is in a group founds none
    pub passes : slice_index_or grouped k false ≡ true → Winning firsts champion grouped best (k + 1)
    passes taken =
        let fits : fits_one firsts k ≡ true = sym (so_far.marks k (omega arith) here) ∙ taken in
        record {
          within = so_far.within;
          sized = so_far.sized;
          known = so_far.known;
          begun = λ e. absurd (true≢false (sym fits ∙ ap (λ (fs : List (List ℕ)). fits_one fs k) (so_far.begun e).1));
          marks = λ j low high. so_far.marks j (omega arith) high;
          leads = rw (founded_step lists order firsts k here, fits) at so_far.leads;
        }

    module _ (grouped' : List Bool) (size : ℕ) (free : slice_index_or grouped k false ≡ false) (counted : size ≡ length (group_at lists order k).members)
        (joined : (j : ℕ) → k ≤ j → j < length order
        → slice_index_or grouped' j false ≡ (is_prefix (lists (slice_index order j)) (lists (slice_index order k)) || slice_index_or grouped j false)) where
      abbrev own : List ℕ
      own = lists (slice_index order k)

      abbrev wins : Bool
      wins = larger size own best.size (lists (slice_index order best.place))

      positive : 0 < size
      positive = omega (arith, counted, ap length (matches_own lists order k here))

      -- the sizes and lists that are compared are the groups'
      same_contest : beats (group_at lists order k) champion ≡ wins
      same_contest =
          ⊎_elim
          (λ e. rw (← counted, ← so_far.sized, ← e, lt-ltb 0 size positive))
          (λ l. rw (← counted, ← so_far.sized, ap (λ (g : Group). g.first) (so_far.known l)))
          (eq-or-lt_of_le zero-le)

      -- one more group, which is the champion or not
      pub founds : Winning (firsts ++ (own ∷ [])) (if wins then group_at lists order k else champion) grouped' (if wins then record { place = k; size = size } else best) (k + 1)
      unfolding winner
      founds = by_contest wins refl
        where
          open_place : fits_one firsts k ≡ false
          open_place = sym (so_far.marks k (omega arith) here) ∙ free

          marks_more : (j : ℕ) → k + 1 ≤ j → j < length order → slice_index_or grouped' j false ≡ fits_one (firsts ++ (own ∷ [])) j
          marks_more j low high = joined j (omega arith) high ∙ rw (so_far.marks j (omega arith) high) (sym (fits_more (lists (slice_index order j)) own firsts))

          leads_on : winner (if beats (group_at lists order k) champion then group_at lists order k else champion) (founded lists (drop (k + 1) order) (firsts ++ (own ∷ [])))
              ≡ winner no_group (founded lists order [])
          leads_on = rw (founded_step lists order firsts k here, open_place) at so_far.leads

          by_contest : (b : Bool) → wins ≡ b
              → Winning (firsts ++ (own ∷ [])) (if b then group_at lists order k else champion) grouped' (if b then record { place = k; size = size } else best) (k + 1)
          by_contest true won =
              record {
                within = here;
                sized = counted;
                known = λ l. refl;
                begun = λ e. absurd (omega (arith, positive));
                marks = marks_more;
                leads = rw (same_contest ∙ won) at leads_on;
              }
          by_contest false lost =
              record {
                within = so_far.within;
                sized = so_far.sized;
                known = so_far.known;
                begun = λ e. absurd (true≢false (sym (rw (e, lt-ltb 0 size positive)) ∙ lost));
                marks = marks_more;
                leads = rw (same_contest ∙ lost) at leads_on;
              }

  -- after the last record the champion is the winner
  pub winning_end : (firsts : List (List ℕ)) (champion : Group) (grouped : List Bool) (best : Founded) (k : ℕ) → 0 < k → length order ≤ k
      → Winning firsts champion grouped best k → group_at lists order best.place ≡ winner no_group (founded lists order [])
  unfolding winner founded
  winning_end firsts champion grouped best k started end so_far =
      ⊎_elim
      (λ e. absurd (omega (arith, (so_far.begun (sym e)).0)))
      (λ l. sym (so_far.known l) ∙ rw (drop_of_length-le order {i = k} end) at so_far.leads)
      (eq-or-lt_of_le zero-le)
