-- The first i positions of both results are written; a turn writes one more.
use Rattle.std.proofs.Common.{◌≡◌, refl, ◌∙◌, ap, ap₂, length, arith}
use Rattle.std.proofs.Math.ListN.{length-set}
use Rattle.lists.specs.Tabulate.{tabulate}
use Rattle.lists.proofs.Tabulate.{tabulate_put}
use Rattle.codec_duplex.specs.Bases.{bases_alone}
use Rattle.codec_duplex.specs.Columns.{field_at, combined_column}
use Rattle.codec_duplex.specs.Position.{combined}
use Rattle.codec_duplex.specs.declared.position.Position.{Position}
use Rattle.codec_duplex.proofs.bases.combine_bases.Goals as goal

pub loop-i-init : goal.loop-i-init
unfolding tabulate
loop-i-init c = record { room = (refl, refl); bases = refl; quals = refl }

pub loop-i-preserved : goal.loop-i-preserved
unfolding field_at
loop-i-preserved c =
    let a = bases_alone c.args.a_bases.now c.args.a_quals.now in
    let b = bases_alone c.args.b_bases.now c.args.b_quals.now in
    let i = c.loop-i.i in
    let so_far = c.loop-i.invariant in
    let p = c.combine-base.ensures ∙ ap₂ combined c.base_at-a.ensures c.base_at-b.ensures in
    record {
      room = (simp length-set so_far.room.0, simp length-set so_far.room.1);
      bases = tabulate_put (field_at Position.base a b) c.args.bases.now i (omega arith) so_far.bases (ap Position.base p);
      quals = tabulate_put (field_at Position.quality a b) c.args.quals.now i (omega arith) so_far.quals (ap Position.quality p);
    }

pub returns : goal.returns
unfolding combined_column
returns c =
    let end : c.loop-i.i ≡ length c.args.a_bases.now = omega arith in
    record { bases = rw end at c.loop-i.invariant.bases; quals = rw end at c.loop-i.invariant.quals }
