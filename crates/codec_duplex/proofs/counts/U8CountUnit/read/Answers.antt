use Rattle.codec_duplex.proofs.Units.{words_within}
use Rattle.codec_duplex.proofs.counts.U8CountUnit.read.Goals as goal

pub word_at-requires : goal.word_at-requires
word_at-requires c = words_within c.args.column.now c.args.i c.requires
