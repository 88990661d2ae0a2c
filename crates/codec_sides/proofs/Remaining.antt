-- A side that is not empty stays so after the alignment group, and after a read cap of at least 1.
use mathlib.Core.Bool.{Bool, true, false, false≢true}
use mathlib.Core.List.{List, [], ◌∷◌, map}
use mathlib.Core.Path.{◌≡◌, refl, ◌∙◌}
use Prim.Native.Nat.{ℕ, zero, suc, ◌<◌, zero-le, suc-le-suc}
use native.Mathlib.Nat.{le_of_suc-le-suc, not-suc-le-zero}
use native.Mathlib.Omega.{arith}
use borrow.Author.Tests.{lt-ltb}
use lib.IntN.{ℤ, pos}
use lib.ListN.{length, get_or}
use Rattle.lists.specs.Tabulate.{tabulate}
use Rattle.caller.proofs.Lowest.{length-lowest_ranking, lowest-stays}
use Rattle.vanilla_caller.proofs.Staying.{length-staying, some_staying}
use Rattle.vanilla_caller.specs.Group.{staying}
use Rattle.vanilla_caller.specs.Side.{list_of}
use Rattle.codec_records.specs.Side.{kept}
use Rattle.codec_sides.specs.Side.{gathered, orientations, in_group, under_cap, dropped}
use Rattle.codec_sides.proofs.Gathered.{length-gathered}

-- where some record stays, one is kept
kept_some : (side : List ℕ) (stays : List Bool) (i : ℕ) → i < length side → get_or stays i false ≡ true → 0 < length (kept side stays)
unfolding kept
kept_some [] stays i h e = absurd (not-suc-le-zero h)
kept_some (r ∷ side) [] i h e = absurd (false≢true e)
kept_some (r ∷ side) (true ∷ stays) i h e = suc-le-suc zero-le
kept_some (r ∷ side) (false ∷ stays) zero h e = absurd (false≢true e)
kept_some (r ∷ side) (false ∷ stays) (suc i) h e = kept_some side stays i (le_of_suc-le-suc h) e

module _ (ops clipped starts counts flags side : List ℕ) where
  pub length-in_group : length (in_group ops clipped starts counts flags side) ≡ length side
  unfolding in_group
  length-in_group = length-staying (gathered 0 clipped side) _ ∙ length-gathered 0 clipped side

  pub group_nonempty : 0 < length side → 0 < length (kept side (in_group ops clipped starts counts flags side))
  unfolding in_group
  group_nonempty some =
      let size = length-gathered 0 clipped side in
      let stays = some_staying (gathered 0 clipped side) (λ k. get_or (map (list_of ops starts counts (orientations flags)) side) k []) (rw size some) in
      kept_some side (in_group ops clipped starts counts flags side) stays.0 (rw size at stays.1) stays.2

  -- of fewer than two, all are in the group
  few_in_group : length side < 2 → in_group ops clipped starts counts flags side ≡ tabulate (λ _. true) (length side)
  unfolding in_group staying
  few_in_group few = let size = length-gathered 0 clipped side in rw (size, lt-ltb (length side) 2 few)

  pub few_kept : length side < 2 → kept side (in_group ops clipped starts counts flags side) ≡ side
  unfolding kept tabulate
  few_kept few = rw (few_in_group few) (all side few)
    where
      all : (rs : List ℕ) → length rs < 2 → kept rs (tabulate (λ _. true) (length rs)) ≡ rs
      all [] h = refl
      all (r ∷ []) h = refl
      all (r ∷ q ∷ rs) h = absurd (omega arith)

  pub few_dropped : length side < 2 → dropped side (in_group ops clipped starts counts flags side) ≡ []
  unfolding kept tabulate
  few_dropped few = rw (few_in_group few) (none side few)
    where
      none : (rs : List ℕ) → length rs < 2 → dropped rs (tabulate (λ _. true) (length rs)) ≡ []
      none [] h = refl
      none (r ∷ []) h = refl
      none (r ∷ q ∷ rs) h = absurd (omega arith)

module _ (ranks : List ℤ) (cap : ℕ) (side : List ℕ) where
  pub length-under_cap : length (under_cap ranks cap side) ≡ length side
  unfolding under_cap
  length-under_cap = length-lowest_ranking (gathered (pos 0) ranks side) cap ∙ length-gathered (pos 0) ranks side

  pub cap_nonempty : 0 < cap → 0 < length side → 0 < length (kept side (under_cap ranks cap side))
  unfolding under_cap
  cap_nonempty room some =
      let size = length-gathered (pos 0) ranks side in
      let stays = lowest-stays (gathered (pos 0) ranks side) cap (rw size some) room in
      kept_some side (under_cap ranks cap side) stays.0 (rw size at stays.1) stays.2
