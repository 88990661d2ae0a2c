-- The first places of the scratch are the padded bases.
use mathlib.Core.Bool.{not}
use mathlib.Core.Path.{sym, ◌∙◌, ap₂}
use Rattle.lists.proofs.Written.{take_count}
use Rattle.codec_duplex.specs.Tally.{tallied}
use Rattle.codec_strands.proofs.Orientation.{length_bases_padded}
use Rattle.codec_framing.specs.Framing.{padded_bases_r1, padded_bases_r2, tally_of}
use Rattle.codec_framing.proofs.tallying.tally_strands.Goals as goal

pub returns : goal.returns
unfolding tally_of padded_bases_r1 padded_bases_r2
returns c =
    let f = c.args.frame in
    let negative = f.r1_is_negative in
    let r1 = length_bases_padded negative negative f.length c.args.r1_bases.now c.requires.r1_fits in
    let r2 = length_bases_padded (not negative) f.r2_is_negative f.length c.args.r2_bases.now c.requires.r2_fits in
    c.tally.ensures
    ∙ ap₂ tallied (take_count _ _ _ f.length (sym r1) (rw c.r1.ensures at c.write_bases.ensures)) (take_count _ _ _ f.length (sym r2) (rw c.r2.ensures at c.write_bases-2.ensures))
