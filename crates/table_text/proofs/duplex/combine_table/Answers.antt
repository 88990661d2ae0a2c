-- A table that the check finds well formed is written; of any other the buffer is not lent on.
use Rattle.std.proofs.Common.{◌≡◌, Result, Ok, Err, rules, refl, sym, ◌∙◌, ap, length}
use Rattle.table_text.specs.Duplex.{answer_at, table_answer}
use Rattle.table_text.specs.InputTable.{Reading}
use Rattle.table_text.specs.OutputTable.{output_table}
use Rattle.table_text.specs.declared.reading.Malformed.{Malformed}
use Rattle.table_text.proofs.duplex.combine_table.Goals as goal

answer-is : (table : Reading) (ending : Result Unit Malformed) → table.ending ≡ ending → answer_at ending (length (output_table table.rows)) ≡ table_answer table
unfolding table_answer
answer-is table ending e = ap (λ (r : Result Unit Malformed). answer_at r (length (output_table table.rows))) (sym e)

pub returns-in_err-check_table : goal.returns-in_err-check_table
returns-in_err-check_table c =
    let is : c.from_residual.result ≡ Err c.in_err-check_table.field-0.0 = search rules in
    rw is
    (record {
      answer = answer-is _ _ (sym c.in_err-check_table.ensures);
      output = refl;
    })

pub returns : goal.returns
returns c =
    record {
      answer = ap Ok c.write_table.ensures.value ∙ answer-is _ _ (sym c.in_ok-check_table.ensures);
      output = c.write_table.ensures.output_after;
    }
