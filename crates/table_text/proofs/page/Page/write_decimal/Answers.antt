-- The digits stand behind the text, and end where it ends.
use Rattle.std.proofs.Common.{refl, length, ap, ◌∙◌}
use Rattle.std.proofs.Math.Seq.{length-sets}
use Rattle.table_text.specs.Decimal.{decimal}
use Rattle.table_text.proofs.page.Page.write_decimal.Goals as goal

pub returns : goal.returns
returns c =
    let written = c.write_decimal-self.ensures in
    record {
      same_loan = refl;
      bytes = written.output_after;
      end = written.value;
      size = ap length written.output_after ∙ length-sets c.args.self.now.bytes.now c.args.self.now.end (decimal c.args.n);
    }
