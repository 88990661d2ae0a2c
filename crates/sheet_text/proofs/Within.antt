-- Refusal 10 leaves every figure few digits: a sample's line has at most 118 bytes.
use mathlib.Core.Bool.{Bool, true, false, cond}
use mathlib.Core.List.{List, [], ◌∷◌}
use mathlib.Core.Path.{◌≡◌}
use Prim.Native.Nat.{ℕ, suc, ◌*◌, ◌/◌, ◌≤◌, ◌<◌, zero-le}
use native.Mathlib.Nat.{div-le_self}
use native.Mathlib.Omega.{arith}
use lib.Dec.{eqb}
use lib.ListN.{length, get_or, length-append}
use Rattle.lists.specs.Total.{total}
use Rattle.codec_stats.specs.Ledger.{filtered, millionths, too_large}
use Rattle.codec_stats.specs.declared.ledger.Ledger.{Ledger}
use Rattle.codec_stats.proofs.Small.{small}
use Rattle.table_text.proofs.Decimals.{length-number_text}
use Rattle.sheet_text.specs.SheetText.{numbers_text, sample_line}

-- a sum of numbers that are at most so large
total-within : (most : ℕ) (xs : List ℕ) → ((i : ℕ) → get_or xs i 0 ≤ most) → total (λ n. n) xs ≤ most * length xs
unfolding total
total-within most [] h = omega arith
total-within most (x ∷ xs) h = omega (arith, h 0, total-within most xs (λ i. h (suc i)))

module _ (l : Ledger) (within : too_large l ≡ false) where
  filtered-within : length l.reasons ≡ 10 → filtered l ≤ 21990232555520
  unfolding filtered
  filtered-within ten = omega (arith, total-within 2199023255552 l.reasons (small l within).reasons, ten)

  millionths-within : millionths l ≤ 2199023255552000000
  unfolding millionths
  millionths-within = go (eqb l.duplex_bases 0)
    where
      go : (b : Bool) → cond b 0 (l.disagreements * 1000000 / l.duplex_bases) ≤ 2199023255552000000
      go true = zero-le
      go false = omega (arith, (small l within).disagreements, div-le_self (l.disagreements * 1000000) l.duplex_bases)

  pub line_within : (sample : ℕ) → sample < 96 → length l.reasons ≡ 10 → length (sample_line sample l) ≤ 118
  unfolding sample_line numbers_text
  line_within sample below ten =
      simp length-append
      (omega (
        arith,
        length-number_text 1 sample 32 (omega arith),
        length-number_text 8 l.families 32 (omega (arith, (small l within).families)),
        length-number_text 12 l.records 32 (omega (arith, (small l within).records)),
        length-number_text 13 (filtered l) 32 (omega (arith, filtered-within ten)),
        length-number_text 12 l.duplexes 32 (omega (arith, (small l within).duplexes)),
        length-number_text 12 l.bases 32 (omega (arith, (small l within).bases)),
        length-number_text 12 l.duplex_bases 32 (omega (arith, (small l within).duplex_bases)),
        length-number_text 12 l.disagreements 32 (omega (arith, (small l within).disagreements)),
        length-number_text 18 (millionths l) 10 (omega (arith, millionths-within)),
      ))
