-- The two bytes are those of the value.
use Rattle.std.proofs.Common.{◌≡◌, ◌/◌, ◌%◌, get_or, arith}
use Rattle.codec_duplex.proofs.Units.{byte_pairs_written}
use Rattle.codec_duplex.proofs.counts.put_word.Goals as goal

pub returns : goal.returns
returns c =
    let low : get_or c.to_le_bytes.result 0 0 ≡ c.args.value % 256 = rw c.to_le_bytes.ensures (omega arith) in
    let high : get_or c.to_le_bytes.result 1 0 ≡ c.args.value / 256 = rw c.to_le_bytes.ensures (omega (arith, c.ranges.value.fits)) in
    rw (low, high) (byte_pairs_written c.args.i c.args.value c.args.bytes.now)
