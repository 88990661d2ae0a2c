-- Document 01, 'Padding, orientation, masks': the masks on a duplex's qualities.
use Rattle.std.specs.Prelude.{Bool, cond, ◌&&◌, ◌||◌, List, ℕ, ◌-◌, ltb, length, get_or, unwrap_or}
use Rattle.lists.specs.Tabulate.{tabulate}
use Rattle.codec_duplex.specs.Position.{has_data}
use Rattle.codec_strands.specs.declared.mask.Masks.{Masks}

-- position i of n is among the first or the last outer ones: none where outer is 0, all where it is n or more
abbrev pub outermost : (outer n i : ℕ) → Bool
outermost outer n i = ltb i outer || ltb (n - 1 - i) outer

-- the outer quality, if given, overwrites that many qualities at each end
abbrev pub outer_mask : Masks → (n i quality : ℕ) → ℕ
outer_mask masks n i quality =
    cond (outermost masks.outer_length n i) (unwrap_or masks.outer_quality quality) quality

-- the single-strand quality, if given, overwrites a position where a padded strand lacks data
abbrev pub single_strand_mask : Masks → (a b quality : ℕ) → ℕ
single_strand_mask masks a b quality =
    cond (has_data a && has_data b) quality (unwrap_or masks.single_strand_quality quality)

-- first the outer mask, then the single-strand mask
unfoldable pub masked_at : Masks → (a b quals : List ℕ) (n i : ℕ) → ℕ
masked_at masks a b quals n i = single_strand_mask masks (get_or a i 0) (get_or b i 0) (outer_mask masks n i (get_or quals i 0))

-- the qualities of a duplex of the padded strands' bases a and b
unfoldable pub masked : Masks → (a b quals : List ℕ) → List ℕ
masked masks a b quals = tabulate (masked_at masks a b quals (length quals)) (length quals)
