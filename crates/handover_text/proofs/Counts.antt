-- The lines of labels and counts, from a place on.
use Rattle.std.proofs.Common.{◌≡◌, ℕ, suc, ◌+◌, ◌<◌, ◌≤◌, List, [], ◌∷◌, ◌++◌, length, drop, get_or, add-one, drop-cons}
use lib.ListN.{drop_of_length-le}
use Rattle.std.proofs.lemmas.List.Sums.{sum_by-cons}
use Rattle.std.specs.Borrow.{Bor}
use Rattle.std.specs.List.{sum_by}
use Rattle.answer_text.specs.Line.{line_text}
use Rattle.handover_text.specs.Sheet.{counts_text}

-- no line, as it is read behind the last one
abbrev pub none : Bor (List ℕ) × ℕ
none = (record { ref_ptr = (0, 0); now = [] }, 0)

module _ (lines : List (Bor (List ℕ) × ℕ)) (i : ℕ) where
  pub counts_next : i < length lines → counts_text (drop i lines) ≡ line_text (get_or lines i none).0.now ((get_or lines i none).1 ∷ []) ++ counts_text (drop (i + 1) lines)
  unfolding counts_text
  counts_next h = rw (add-one, drop-cons lines i none h)

  pub widths_next : i < length lines
      → sum_by (λ line. length line.0.now + 22) (drop i lines) ≡ length (get_or lines i none).0.now + 22 + sum_by (λ line. length line.0.now + 22) (drop (i + 1) lines)
  widths_next h = rw (add-one, drop-cons lines i none h) (sum_by-cons (λ (line : Bor (List ℕ) × ℕ). length line.0.now + 22) (get_or lines i none) (drop (suc i) lines))

  pub counts_ended : length lines ≤ i → counts_text (drop i lines) ≡ []
  unfolding counts_text
  counts_ended h = rw (drop_of_length-le lines h)
