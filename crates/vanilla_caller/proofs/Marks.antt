-- Columns of flags that are marked one place after the other.
use Rattle.std.proofs.Common.{Bool, true, false, ◌||◌, List, [], ◌∷◌, ◌++◌, ◌≡◌, refl, ◌∙◌, ℕ, zero, suc, add-one, ◌+◌, ◌≤◌, ◌<◌, All, length, slice_index, slice_index_or, slice_set, replicate, take, drop, filter, append-nil}
use Rattle.std.proofs.lemmas.List.{length-replicate, replicate_more}
use Rattle.std.proofs.lemmas.List.Elements.{All-get_or, filter_more}
use Rattle.lists.specs.Member.{is_in}
use Rattle.lists.specs.Tabulate.{tabulate}
use Rattle.lists.specs.Written.{written}
use Rattle.lists.proofs.Member.{is_in_here, is_in_other}
use Rattle.lists.proofs.Tabulate.{length-tabulate, set-tabulate}
use Rattle.lists.proofs.Written.{set-written}

-- from place k on, where a test holds
module _ (test : ℕ → Bool) (old : List Bool) (k : ℕ) where
  -- marked up to place j, and as it was from there on
  pub record Marked (j : ℕ) (now : List Bool) : Type 0 where
    pub below : (i : ℕ) → k ≤ i → i < j → slice_index_or now i false ≡ (test i || slice_index_or old i false)
    pub above : (i : ℕ) → j ≤ i → slice_index_or now i false ≡ slice_index_or old i false

tabulate-constant : {A : Type 0} (x : A) (n : ℕ) → replicate n x ≡ tabulate (λ _. x) n
unfolding tabulate
tabulate-constant x zero = refl
tabulate-constant x (suc n) = rw (← tabulate-constant x n, replicate_more n x, add-one n)

-- the first n places, filled with one answer
pub written_fill : {A : Type 0} (x : A) (n : ℕ) (old : List A) → replicate n x ++ drop n old ≡ written (tabulate (λ _. x) n) old
written_fill x n old = rw (← tabulate-constant x n, length-replicate n x)

-- the first n places of a column say for each number whether it is in a list
abbrev pub says_members : ℕ → List Bool → List ℕ → List Bool
says_members n old js = written (tabulate (λ i. is_in i js) n) old

-- those of a list that meet a test are marked one after the other
module _ (test : ℕ → Bool) (n : ℕ) (old : List Bool) (xs : List ℕ) (k : ℕ) (here : k < length xs) (within : All (λ i. i < n) xs)
    (column : List Bool) (so_far : column ≡ says_members n old (filter test (take k xs))) where
  pub says_members_met : n ≤ length old → test (slice_index xs k) ≡ true → slice_set column (slice_index xs k) true ≡ says_members n old (filter test (take (k + 1) xs))
  says_members_met room met =
      let i = slice_index xs k in
      let js = filter test (take k xs) in
      let below : i < n = All-get_or (λ i. i < n) xs k 0 here within in
      rw (so_far, filter_more test xs k 0 here, met)
      (set-written (tabulate (λ k. is_in k js) n) old i true (rw (length-tabulate (λ k. is_in k js) n) below)
      ∙ rw (set-tabulate (λ k. is_in k js) (λ k. is_in k (js ++ (i ∷ []))) n i true below (is_in_here i js) (λ k differ. is_in_other k i js differ)))

  pub says_members_failed : test (slice_index xs k) ≡ false → column ≡ says_members n old (filter test (take (k + 1) xs))
  says_members_failed failed = rw (filter_more test xs k 0 here, failed, append-nil) so_far
