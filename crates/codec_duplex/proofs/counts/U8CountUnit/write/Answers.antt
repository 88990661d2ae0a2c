use Rattle.codec_duplex.proofs.Units.{words_within}
use Rattle.codec_duplex.proofs.counts.U8CountUnit.write.Goals as goal

pub put_word-requires : goal.put_word-requires
put_word-requires c = words_within c.args.column.now c.args.i c.requires
