use Rattle.std.proofs.Common.{◌≡◌, length}
use Rattle.lists.specs.Tabulate.{tabulate}
use Rattle.lists.specs.Written.{written}
use Rattle.codec_duplex.specs.Bases.{bases_alone}
use Rattle.codec_duplex.specs.Columns.{field_at}
use Rattle.codec_duplex.specs.declared.position.Position.{Position}
use Rattle.codec_duplex.proofs.bases.combine_bases.Given as goal

abbrev pub invariant-loop-i : goal.invariant-loop-i
invariant-loop-i l =
    let a = bases_alone l.a_bases l.a_quals in
    let b = bases_alone l.b_bases l.b_quals in
    record {
      room : (length l.bases ≡ length l.initial.bases) × (length l.quals ≡ length l.initial.quals);
      bases : l.bases ≡ written (tabulate (field_at Position.base a b) l.i) l.initial.bases;
      quals : l.quals ≡ written (tabulate (field_at Position.quality a b) l.i) l.initial.quals;
    }
