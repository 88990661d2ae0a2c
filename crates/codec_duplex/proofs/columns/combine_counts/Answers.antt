-- The first i positions of both results are written; a turn writes one more.
use Rattle.std.proofs.Common.{◌≡◌, refl, ◌∙◌, ap, List, ℕ, ◌+◌, ◌<◌, length, arith}
use Rattle.std.proofs.Math.Numerals.{add-one}
use Rattle.lists.specs.Tabulate.{tabulate}
use Rattle.lists.specs.Written.{written}
use Rattle.lists.proofs.Tabulate.{length-tabulate}
use Rattle.codec_duplex.specs.Columns.{position_at, field_at, combined_column}
use Rattle.codec_duplex.specs.Lent.{held}
use Rattle.codec_duplex.specs.Position.{combined}
use Rattle.codec_duplex.specs.Units.{Coding, Writes}
use Rattle.codec_duplex.specs.declared.position.Position.{Position}
use Rattle.codec_duplex.proofs.columns.combine_counts.Goals as goal

-- a column that is tabulated from the front, one count a turn
put : {U : Type 0} (l : Coding U) (f : ℕ → ℕ) (lent : List U) {before after : List U} {value : ℕ} (i : ℕ) → i < length (l.counts lent)
    → before ≡ written (l.units (tabulate f i)) lent
    → value ≡ f i
    → Writes l i value before after
    → after ≡ written (l.units (tabulate f (i + 1))) lent
unfolding tabulate
put l f lent i h e v writes = rw add-one (rw v at (writes.next (tabulate f i) lent (length-tabulate f i) h e))

pub loop-i-init : goal.loop-i-init
unfolding tabulate
loop-i-init g c =
    let none = g.met.U.CountUnit.none in
    record { room = (refl, refl); depths = rw none refl; errors = rw none refl }

pub loop-i-preserved : goal.loop-i-preserved
unfolding field_at
loop-i-preserved g c =
    let coding = g.U.CountUnit.coding in
    let a = held coding c.args.a.now in
    let b = held coding c.args.b.now in
    let i = c.loop-i.i in
    let so_far = c.loop-i.invariant in
    let p : c.combine-depth.result ≡ combined (position_at a i) (position_at b i) = rw (← c.position_at.ensures, ← c.position_at-in-loop-i.ensures) c.combine-depth.ensures in
    record {
      room = (c.write.ensures.room ∙ so_far.room.0, c.write-in-loop-i.ensures.room ∙ so_far.room.1);
      depths = put coding (field_at Position.depth a b) c.args.depths.now i (omega arith) so_far.depths (ap Position.depth p) c.write.ensures;
      errors = put coding (field_at Position.error a b) c.args.errors.now i (omega arith) so_far.errors (ap Position.error p) c.write-in-loop-i.ensures;
    }

pub returns-clause-depths : goal.returns-clause-depths
unfolding combined_column
returns-clause-depths g c = let end : c.loop-i.i ≡ length c.args.a.now.bases.now = omega arith in rw end at c.loop-i.invariant.depths

pub returns-clause-errors : goal.returns-clause-errors
unfolding combined_column
returns-clause-errors g c = let end : c.loop-i.i ≡ length c.args.a.now.bases.now = omega arith in rw end at c.loop-i.invariant.errors
