use Rattle.std.proofs.Common.{◌≡◌, length}
use Rattle.lists.specs.Tabulate.{tabulate}
use Rattle.lists.specs.Written.{written}
use Rattle.codec_duplex.specs.Columns.{field_at}
use Rattle.codec_duplex.specs.Lent.{held}
use Rattle.codec_duplex.specs.declared.position.Position.{Position}
use Rattle.codec_duplex.proofs.columns.combine_counts.Given as goal

abbrev pub invariant-loop-i : goal.invariant-loop-i
invariant-loop-i g l =
    let coding = g.U.CountUnit.coding in
    let a = held coding l.a in
    let b = held coding l.b in
    record {
      room : (length (coding.counts l.depths) ≡ length (coding.counts l.initial.depths)) × (length (coding.counts l.errors) ≡ length (coding.counts l.initial.errors));
      depths : l.depths ≡ written (coding.units (tabulate (field_at Position.depth a b) l.i)) l.initial.depths;
      errors : l.errors ≡ written (coding.units (tabulate (field_at Position.error a b) l.i)) l.initial.errors;
    }
