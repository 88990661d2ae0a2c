-- The columns are what the first call ensures; the second masks the qualities that it wrote.
use Rattle.std.proofs.Common.{length}
use Rattle.codec_duplex.specs.Columns.{combined_column}
use Rattle.codec_duplex.specs.Lent.{strand_of}
use Rattle.codec_duplex.specs.declared.position.Position.{Position}
use Rattle.codec_framing.specs.Framing.{masked_duplex}
use Rattle.codec_framing.proofs.Lengths.{length-column}
use Rattle.codec_framing.proofs.Places.{same-duplex, masked-written}
use Rattle.codec_framing.proofs.writing.combine_masked.Goals as goal

pub returns-clause-masked : goal.returns-clause-masked
unfolding masked_duplex
returns-clause-masked c =
    let a = strand_of c.args.a.now in
    let b = strand_of c.args.b.now in
    let columns = c.combine_columns.ensures.filled in
    let quals = masked-written c.args.masks a.bases b.bases (length a.bases) (combined_column Position.quality a b) _ (length-column Position.quality a b) columns.quals c.mask_consensus_quals_query_based.ensures in
    same-duplex columns.bases quals columns.depths columns.errors
