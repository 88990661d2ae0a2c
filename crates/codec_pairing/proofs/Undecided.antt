-- A record is undecided after steps 1 and 2 where it is entered.
use mathlib.Core.Bool.{Bool, true, false, cond, not, ◌&&◌}
use mathlib.Core.List.{List, map, map-append}
use mathlib.Core.Path.{◌≡◌, refl}
use Prim.Native.Nat.{ℕ, zero, suc}
use lib.ListN.{get_or}
use Rattle.lists.specs.Tabulate.{tabulate}
use Rattle.raw_bam.specs.Flags.{paired_flag, has_flag}
use Rattle.codec_pairing.specs.Pairing.{not_primary, is_pair, namesakes, is_entered, fate_of}
use Rattle.codec_pairing.specs.Refusals.{is_undecided}

by_flags : (paired aside pair : Bool) → is_undecided (cond (not paired) 1 (cond aside 11 (cond (paired && not aside && pair) 0 2))) ≡ (paired && not aside && pair)
by_flags false aside pair = refl
by_flags true true pair = refl
by_flags true false true = refl
by_flags true false false = refl

module _ (flags names : List ℕ) (verdicts : List Bool) where
  pub undecided_entered : (i : ℕ) → is_undecided (fate_of flags names verdicts i) ≡ is_entered flags names verdicts i
  unfolding fate_of is_entered
  undecided_entered i = by_flags (has_flag (get_or flags i 0) paired_flag) (not_primary (get_or flags i 0)) (is_pair verdicts (namesakes flags names i))

  -- the column that steps 1 and 2 write says which records are entered
  pub fates_entered : (n : ℕ) → map is_undecided (tabulate (fate_of flags names verdicts) n) ≡ tabulate (is_entered flags names verdicts) n
  unfolding tabulate
  fates_entered zero = refl
  fates_entered (suc n) = rw (map-append, fates_entered n, undecided_entered n)
