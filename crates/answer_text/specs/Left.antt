-- What a family call left in the lent columns, as it is read.
use Rattle.codec_duplex.specs.Duplex.{duplex}
use Rattle.codec_duplex.specs.Lent.{strand_of}
use Rattle.codec_family.specs.Call.{Lent, lent_of}
use Rattle.answer_text.specs.declared.left.Left.{Left}

abbrev pub left_shown : Left → Lent
left_shown left =
    let d = left.duplex in
    lent_of (duplex d.bases.now d.quals.now d.depths.now d.errors.now) (strand_of left.r1) (strand_of left.r2) left.listed.now left.reasons.now left.marks.now
