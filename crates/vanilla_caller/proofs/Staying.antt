-- Some record of a side stays: the founder of the winning group is in it, and is one of the side's records.
use Rattle.std.proofs.Common.{Bool, true, false, List, [], ◌∷◌, ◌++◌, All, ◌≡◌, refl, ◌∙◌, ℕ, suc, ◌<◌, nat_lt, length, slice_index_or, arith}
use Rattle.std.specs.List.{list_any}
use Rattle.std.proofs.lemmas.Bool.{cond_both}
use Rattle.std.proofs.lemmas.List.Elements.{All-head, All-tail}
use borrow.Author.Tests.{lt-ltb, eq-eqb}
use native.Mathlib.Nat.{not-suc-le-zero}
use Rattle.lists.specs.Member.{is_in}
use Rattle.lists.proofs.Tabulate.{length-tabulate, get_d_tabulate}
use Rattle.raw_bam.specs.Prefix.{is_prefix}
use Rattle.vanilla_caller.specs.Founding.{matches, founded}
use Rattle.vanilla_caller.specs.Group.{Group, beats, winner, no_group, most_common, staying}
use Rattle.vanilla_caller.specs.Order.{by_length}
use Rattle.vanilla_caller.proofs.Groups.{groups_founded}
use Rattle.vanilla_caller.proofs.Orders.{length-by_length, by_length-within}

pub length-staying : (lengths : List ℕ) (lists : ℕ → List ℕ) → length (staying lengths lists) ≡ length lengths
unfolding staying
length-staying lengths lists =
    let n = length lengths in
    cond_both (nat_lt n 2) _ _ (λ (stays : List Bool). length stays ≡ n) (λ _. length-tabulate (λ _. true) n)
    (λ _. length-tabulate (λ i. is_in i (most_common lengths lists n).members) n)

module _ (lists : ℕ → List ℕ) (n : ℕ) where
  -- a group that has one of the first n records
  abbrev HasMember : Group → Type 0
  HasMember g = (i : ℕ) × (i < n) × (is_in i g.members ≡ true)

  abbrev founded_by : ℕ → List ℕ → Group
  founded_by i is = record { first = lists i; members = i ∷ matches lists (lists i) is }

  has_founder : (i : ℕ) (is : List ℕ) → i < n → HasMember (founded_by i is)
  unfolding is_in
  has_founder i is below = (i, below, rw (eq-eqb i i refl))

  -- the winner of groups that records found has a member where the group that it has to beat has one
  winner_has : (is : List ℕ) (firsts : List (List ℕ)) (best : Group) → All (λ i. i < n) is → HasMember best → HasMember (winner best (founded lists is firsts))
  unfolding founded winner
  winner_has [] firsts best below own = own
  winner_has (i ∷ is) firsts best below own =
      let rest = All-tail (λ i. i < n) i is below in
      cond_both (list_any (is_prefix (lists i)) firsts) _ _ (λ (groups : List Group). HasMember (winner best groups)) (λ _. winner_has is firsts best rest own)
      (λ _.
      winner_has is (firsts ++ (lists i ∷ [])) _ rest
      (cond_both (beats (founded_by i is) best) _ _ HasMember (λ _. has_founder i is (All-head (λ i. i < n) i is below)) (λ _. own)))

  -- the first record founds a group, which wins over none
  some_member : (is : List ℕ) → 0 < length is → All (λ i. i < n) is → HasMember (winner no_group (founded lists is []))
  unfolding founded winner
  some_member [] some below = absurd (not-suc-le-zero some)
  some_member (i ∷ is) some below =
      let first : beats (founded_by i is) no_group ≡ true = rw (lt-ltb 0 (suc (length (matches lists (lists i) is))) (omega arith)) in
      rw first (winner_has is (lists i ∷ []) (founded_by i is) (All-tail (λ i. i < n) i is below) (has_founder i is (All-head (λ i. i < n) i is below)))

pub some_staying : (lengths : List ℕ) (lists : ℕ → List ℕ) → 0 < length lengths → (i : ℕ) × (i < length lengths) × (slice_index_or (staying lengths lists) i false ≡ true)
unfolding staying most_common
some_staying lengths lists some =
    let n = length lengths in
    let order = by_length lengths n in
    let member = some_member lists n order (rw (length-by_length lengths n) some) (by_length-within lengths n) in
    cond_both (nat_lt n 2) _ _ (λ (stays : List Bool). (i : ℕ) × (i < n) × (slice_index_or stays i false ≡ true))
    (λ _. (0, some, get_d_tabulate (λ _. true) n 0 false some))
    (λ _. rw (groups_founded lists order) (member.0, member.1, get_d_tabulate _ n member.0 false member.1 ∙ member.2))
