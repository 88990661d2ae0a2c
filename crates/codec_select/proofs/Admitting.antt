-- Where no refusal is given, each entered record is admissible.
use mathlib.Core.Bool.{Bool, false}
use mathlib.Core.List.{List}
use mathlib.Core.Path.{◌≡◌, ◌∙◌, ap}
use Prim.Native.Nat.{ℕ, ◌<◌}
use native.Mathlib.Omega.{arith}
use lib.ListN.{length, get_or}
use Rattle.lists.proofs.Tabulate.{get_d_tabulate}
use Rattle.codec_select.specs.Alignments.{Alignments, EnteredAdmissible}
use Rattle.codec_pairing.specs.Pairing.{is_entered}
use Rattle.codec_pairing.specs.Refusals.{Reads, reads, first_refusal}
use Rattle.codec_select.specs.Steps.{fates_of}
use Rattle.std.specs.Prelude.{Ok}
use Rattle.codec_select.proofs.Sound.{entered_sound, sound-alignment}
use Rattle.codec_pairing.proofs.Undecided.{fates_entered}

-- the columns are equally long
pub record Alike (a : Alignments) : Type 0 where
  pub as_many_clipped : length a.clipped ≡ length a.flags
  pub as_many_positions : length a.positions ≡ length a.flags
  pub as_many_starts : length a.starts ≡ length a.flags
  pub as_many_counts : length a.counts ≡ length a.flags

module _ (a : Alignments) (names : List ℕ) (verdicts : List Bool) (minimum records : ℕ) where
  abbrev given : Reads
  given = reads (fates_of a.flags names verdicts) a.clipped a.positions a.starts a.counts a.ops

  pub entered_admissible : Alike a → first_refusal minimum records given ≡ Ok tt → EnteredAdmissible a names verdicts
  entered_admissible alike none r h entered =
      let told = ap (λ (column : List Bool). get_or column r false) (fates_entered a.flags names verdicts (length a.flags)) ∙ get_d_tabulate (is_entered a.flags names verdicts) (length a.flags) r false h ∙ entered in
      let in-clipped : r < length a.clipped = omega (arith, h, alike.as_many_clipped) in
      let sound = entered_sound minimum records given none r in-clipped told in
      record {
        has_flags = h;
        has_clipped = in-clipped;
        has_position = omega (arith, h, alike.as_many_positions);
        has_operations = record { has_start = omega (arith, h, alike.as_many_starts); has_count = omega (arith, h, alike.as_many_counts); part = sound.inside; short = sound.few };
        admitted = sound-alignment sound;
      }
