-- Which record gives a refusal.
use Rattle.std.proofs.Common.{◌≡◌, ◌∙◌, ◌<◌, ◌≤◌, ◌+◌, ◌-◌, ℕ, Bool, true, false, List, length, get_or, map, Option, Some, None, arith, eq-eqb, ne_eqb}
use Rattle.std.specs.Prelude.{slice_get}
use Rattle.lists.specs.Numbers.{numbers_from}
use Rattle.std.proofs.lemmas.List.{get_or-map}
use Rattle.lists.proofs.Numbers.{numbers_yes, numbers_no, numbers_end}
use Rattle.caller.specs.Fates.{undecided_number}
use Rattle.codec_pairing.specs.declared.refusal.Read.{Read}
use Rattle.codec_pairing.specs.Refusals.{Reads, read_of, gives, lowest_bad, is_undecided}

module _ (bad : Read → Bool) (f : Reads) where
  -- the lowest from record i on
  abbrev pub lowest_from : ℕ → Option ℕ
  lowest_from i = slice_get (numbers_from (gives bad f) i (length f.clipped - i)) 0

  pub lowest_from-0 : lowest_bad bad f ≡ lowest_from 0
  unfolding lowest_bad
  lowest_from-0 =
      let all : length f.clipped - 0 ≡ length f.clipped = omega arith in
      rw all

  module _ (i : ℕ) (so_far : lowest_bad bad f ≡ lowest_from i) where
    pub none-left : length f.clipped ≤ i → lowest_bad bad f ≡ None
    none-left h = so_far ∙ rw (numbers_end (gives bad f) (length f.clipped) i h)

    module _ (fates : List ℕ) (e : f.entered ≡ map is_undecided fates) (h : i < length fates) (g : i < length f.clipped) where
      passed : gives bad f i ≡ false → lowest_bad bad f ≡ lowest_from (i + 1)
      passed fails = so_far ∙ rw (numbers_no (gives bad f) (length f.clipped) i g fails)

      -- an undecided record is asked
      gives-undecided : get_or fates i 0 ≡ undecided_number → gives bad f i ≡ bad (read_of f i)
      unfolding gives
      gives-undecided same = rw (e, get_or-map is_undecided fates i 0 false h, eq-eqb _ _ same)

      pub found_bad : get_or fates i 0 ≡ undecided_number → bad (read_of f i) ≡ true → lowest_bad bad f ≡ Some i
      found_bad same is_bad = so_far ∙ rw (numbers_yes (gives bad f) (length f.clipped) i g (gives-undecided same ∙ is_bad))

      pub passed_good : get_or fates i 0 ≡ undecided_number → bad (read_of f i) ≡ false → lowest_bad bad f ≡ lowest_from (i + 1)
      passed_good same is_good = passed (gives-undecided same ∙ is_good)

      -- and another is not
      pub passed_decided : (get_or fates i 0 ≡ undecided_number → ⊥) → lowest_bad bad f ≡ lowest_from (i + 1)
      unfolding gives
      passed_decided differ = passed (rw (e, get_or-map is_undecided fates i 0 false h, ne_eqb _ _ differ))
