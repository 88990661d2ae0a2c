-- Laws of a line of the sheet.
use Rattle.std.proofs.Common.{◌≡◌, ◌≢◌, ◌+◌, ◌<◌, ◌≤◌, ℕ, List, [], ◌∷◌, ◌++◌, length, drop, slice_index_or, refl, arith}
use Rattle.std.proofs.lemmas.Bool.{eq-eqb, ne_eqb}
use Rattle.std.proofs.lemmas.List.{drop_more, drop_all}
use Rattle.codec_stats.specs.declared.ledger.Ledger.{Ledger}
use Rattle.table_text.specs.OutputTable.{number_text}
use Rattle.table_text.specs.Text.{space, line_feed}
use Rattle.sheet_text.specs.SheetText.{numbers_text, sample_line, sample_text}

pub no_numbers : (numbers : List ℕ) → length numbers ≡ 0 → numbers_text numbers ≡ []
unfolding numbers_text
no_numbers [] none = refl
no_numbers (n ∷ more) none = absurd (omega arith)

number_then : (n last : ℕ) (others : List ℕ) → numbers_text (n ∷ (others ++ (last ∷ []))) ≡ number_text n space ++ numbers_text (others ++ (last ∷ []))
unfolding numbers_text
number_then n last [] = refl
number_then n last (m ∷ more) = refl

module _ (others : List ℕ) (last i : ℕ) where
  -- the number at a place, and those left
  pub number_at : i < length others → numbers_text (drop i others ++ (last ∷ [])) ≡ number_text (slice_index_or others i 0) space ++ numbers_text (drop (i + 1) others ++ (last ∷ []))
  number_at inside = rw (drop_more others i 0 inside) (number_then (slice_index_or others i 0) last (drop (i + 1) others))

  pub number_last : length others ≤ i → numbers_text (drop i others ++ (last ∷ [])) ≡ number_text last line_feed
  unfolding numbers_text
  number_last past = rw (drop_all i others past) refl

-- the text of a sample, by its families
module _ (sample : ℕ) (l : Ledger) where
  pub no_line : l.families ≡ 0 → sample_text sample l ≡ []
  unfolding sample_text
  no_line none = rw (eq-eqb l.families 0 none)

  pub one_line : l.families ≢ 0 → sample_text sample l ≡ sample_line sample l
  unfolding sample_text
  one_line some = rw (ne_eqb l.families 0 some)
