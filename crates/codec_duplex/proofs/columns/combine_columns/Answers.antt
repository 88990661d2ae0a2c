-- The bases and qualities are those of the whole strands.
use Rattle.codec_duplex.specs.Lent.{held}
use Rattle.codec_duplex.proofs.BasesAlone.{bases_alone_lem, quals_alone}
use Rattle.codec_duplex.proofs.columns.combine_columns.Goals as goal

pub returns-clause-filled : goal.returns-clause-filled
returns-clause-filled g c =
    let a = held g.U.CountUnit.coding c.args.a.now in
    let b = held g.U.CountUnit.coding c.args.b.now in
    record {
      bases = rw (bases_alone_lem a b) at c.combine_bases.ensures.bases;
      quals = rw (quals_alone a b) at c.combine_bases.ensures.quals;
      depths = c.combine_counts.ensures.depths;
      errors = c.combine_counts.ensures.errors;
    }
