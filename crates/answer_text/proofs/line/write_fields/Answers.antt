-- Each field behind those that are written.
use Rattle.std.proofs.Common.{arith, mul-add}
use Rattle.table_text.proofs.Pages.{appends_none}
use Rattle.answer_text.proofs.Lines.{field_appended}
use Rattle.answer_text.specs.Line.{fields_by}
use Rattle.answer_text.proofs.line.write_fields.Goals as goal

pub loop-n-init : goal.loop-n-init
unfolding fields_by
loop-n-init g c = record { appended = appends_none c.args.page.now; short = omega arith }

pub loop-n-preserved : goal.loop-n-preserved
loop-n-preserved g c =
    record {
      appended = field_appended g.N.Field.number c.args.numbers.now c.loop-n.n-index c.n-item.result c.loop-n-test.true c.n-item.is c.loop-n.invariant.appended (rw c.number.ensures.value at c.write_field.ensures);
      short = omega (arith, mul-add g.N.Field.widest c.loop-n.n-index 1, c.number.ensures.narrow);
    }
