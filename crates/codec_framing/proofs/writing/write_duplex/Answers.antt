-- The strands and the duplex stand where they were written, are read there, and are turned back there.
use Rattle.std.proofs.Common.{◌∙◌, ap}
use Rattle.codec_duplex.specs.Columns.{strand}
use Rattle.codec_duplex.specs.Lent.{first_places}
use Rattle.codec_framing.specs.Framing.{padded_r1, padded_r2}
use Rattle.codec_framing.proofs.Places.{framed}
use Rattle.codec_framing.proofs.writing.write_duplex.Goals as goal

pub returns-clause-framed : goal.returns-clause-framed
unfolding padded_r1 padded_r2
returns-clause-framed c =
    let first = c.first.ensures ∙ ap (λ s. first_places c.args.frame.length (strand s.bases s.quals s.depths s.errors)) c.as_strand.ensures in
    let second = c.first-2.ensures ∙ ap (λ s. first_places c.args.frame.length (strand s.bases s.quals s.depths s.errors)) c.as_strand-2.ensures in
    framed c.args.masks c.requires (rw c.r1.ensures at c.pad_consensus.ensures.padded) (rw c.r2.ensures at c.pad_consensus-2.ensures.padded)
    (rw (first, second) at c.combine_masked.ensures.masked)
    c.reverse_complement_if.ensures.oriented c.reverse_complement_if-2.ensures.oriented c.reverse_complement_if-3.ensures.oriented
