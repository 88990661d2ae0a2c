-- The tallies are over the duplex's positions, and count no more of them than there are.
use mathlib.Core.Path.{◌≡◌, refl, ◌∙◌, ap}
use mathlib.Core.List.{List}
use Prim.Native.Nat.{ℕ, ◌≤◌}
use native.Mathlib.Omega.{arith}
use lib.ListN.{length}
use Rattle.std.proofs.lemmas.Bool.{and_parts}
use Rattle.lists.specs.Count.{count_below}
use Rattle.lists.proofs.Count.{count-le, count_into}
use Rattle.codec_duplex.specs.Columns.{Strand}
use Rattle.codec_duplex.specs.Tally.{both_call, disagree, tallied}
use Rattle.codec_strands.specs.Strands.{Within}
use Rattle.codec_strands.proofs.Orientation.{length_bases_padded}
use Rattle.codec_framing.specs.Framing.{padded_r1, padded_r2, padded_bases_r1, padded_bases_r2, tally_of}
use Rattle.codec_framing.specs.declared.frame.Frame.{Frame}
use Rattle.codec_framing.proofs.Lengths.{long_padded_r1}

module _ (f : Frame) (a b : Strand) where
  -- bases alone are padded as the strand's are
  pub tally_of-padded : tally_of f a.bases b.bases ≡ tallied (padded_r1 f a).bases (padded_r2 f b).bases
  unfolding tally_of padded_bases_r1 padded_bases_r2 padded_r1 padded_r2
  tally_of-padded = refl

  -- the tallies are those of the duplex's positions
  pub tally_of_positions : Within f.length a
      → ((tally_of f a.bases b.bases).bases ≡ count_below (both_call (padded_r1 f a).bases (padded_r2 f b).bases) f.length)
      × ((tally_of f a.bases b.bases).disagreements ≡ count_below (disagree (padded_r1 f a).bases (padded_r2 f b).bases) f.length)
  unfolding tallied
  tally_of_positions within =
      let size = (long_padded_r1 f a within).bases in (
        ap (λ t. t.bases) tally_of-padded ∙ ap (count_below (both_call (padded_r1 f a).bases (padded_r2 f b).bases)) size,
        ap (λ t. t.disagreements) tally_of-padded ∙ ap (count_below (disagree (padded_r1 f a).bases (padded_r2 f b).bases)) size,
      )

length-padded_bases_r1 : (f : Frame) (bases : List ℕ) → length bases ≤ f.length → length (padded_bases_r1 f bases) ≡ f.length
unfolding padded_bases_r1
length-padded_bases_r1 f bases h = length_bases_padded f.r1_is_negative f.r1_is_negative f.length bases h

module _ (f : Frame) (r1 r2 : List ℕ) where
  -- no more positions are tallied than the duplex has
  pub tally_of-within : length r1 ≤ f.length → (tally_of f r1 r2).bases ≤ f.length
  unfolding tally_of tallied
  tally_of-within h =
      let a = padded_bases_r1 f r1 in
      omega (arith, count-le (both_call a (padded_bases_r2 f r2)) (length a), length-padded_bases_r1 f r1 h)

  -- the disagreements are among the positions that both strands call
  pub tally_of_disagreements : (tally_of f r1 r2).disagreements ≤ (tally_of f r1 r2).bases
  unfolding tally_of tallied disagree
  tally_of_disagreements =
      let a = padded_bases_r1 f r1 in
      let b = padded_bases_r2 f r2 in
      count_into (disagree a b) (both_call a b) (λ i. i) (length a) (length a)
      (λ i h both. (h, (and_parts (both_call a b i) _ both).0))
      (λ i j h k p q e. e)
