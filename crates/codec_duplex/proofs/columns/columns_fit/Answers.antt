-- The three tests are the definition's.
use Rattle.std.proofs.Common.{rules}
use lib.Dec.{eqb, leb}
use Rattle.codec_duplex.specs.Kept.{columns_fit}
use Rattle.codec_duplex.proofs.columns.columns_fit.Goals as goal

pub returns : goal.returns
unfolding columns_fit
returns g c =
    let n = c.len-n.result in
    let a = c.each_length.ensures (eqb n) (λ m r post. search rules) in
    let b = c.each_length-2.ensures (eqb n) (λ m r post. search rules) in
    let out = c.each_length-3.ensures (leb n) (λ m r post. search rules) in
    rw (a, b, out, c.len-n.ensures)
