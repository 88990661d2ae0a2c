-- The answer's refusal decides which text is written.
use mathlib.Core.List.{List}
use mathlib.Core.Path.{◌≡◌, sym, ap}
use Prim.Native.Nat.{ℕ, ◌≤◌}
use native.Mathlib.Omega.{arith}
use lib.ListN.{length, drop, length-append}
use lib.Seq.{length-take-le}
use Rattle.lists.specs.Written.{written}
use Rattle.table_text.specs.Duplex.{CombinedTable, answer_at, table_answer, text_at, refusal_text, standard_output}
use Rattle.table_text.specs.InputTable.{Reading, table_of}
use Rattle.table_text.specs.OutputTable.{output_table, Front}
use Rattle.std.specs.Prelude.{Result, Ok, Err}
use Rattle.table_text.specs.declared.reading.Malformed.{Malformed}
use Rattle.table_text.proofs.duplex.duplex_table.Goals as goal

-- an answer that is a size is that of the output table
size_is : (table : Reading) (size : ℕ) → table_answer table ≡ Ok size → size ≡ length (output_table table.rows)
unfolding table_answer
size_is table size e = go table.ending e
  where
    go : (ending : Result Unit Malformed) → answer_at ending (length (output_table table.rows)) ≡ Ok size → size ≡ length (output_table table.rows)
    go (Ok formed) e = cc
    go (Err malformed) e = cc

text-is : (input : List ℕ) (answer : Result ℕ Malformed) → answer ≡ table_answer (table_of input) → standard_output input ≡ text_at answer (output_table (table_of input).rows)
unfolding standard_output
text-is input answer e = ap (λ (r : Result ℕ Malformed). text_at r (output_table (table_of input).rows)) (sym e)

filled : (text old : List ℕ) {new : List ℕ} {size : ℕ} → size ≡ length text → new ≡ written text old → (size ≡ length text) × ((new ≡ written text old) × Front size new)
filled text old {new} {size} e same =
    let h : size ≤ length new = omega (arith, ap length same, length-append text (drop (length text) old)) in
    (e, (same, (h, sym (length-take-le size new h))))

module _ (input old : List ℕ) {new : List ℕ} (answer : Result ℕ Malformed) where
  whole_written : {size : ℕ} → CombinedTable input old new answer → answer ≡ Ok size
      → (size ≡ length (standard_output input)) × ((new ≡ written (standard_output input) old) × Front size new)
  whole_written combined e =
      let is = rw e at combined in
      rw (text-is input _ is.answer) (filled (output_table (table_of input).rows) old (size_is _ _ (sym is.answer)) is.output)

  refusal_written : {malformed : Malformed} {size : ℕ} {last : List ℕ} → CombinedTable input old new answer → answer ≡ Err malformed → size ≡ length (refusal_text 13 malformed.line) → last ≡ written (refusal_text 13 malformed.line) new
      → (size ≡ length (standard_output input)) × ((last ≡ written (standard_output input) old) × Front size last)
  refusal_written {malformed} combined e size wrote =
      let is = rw e at combined in
      rw (text-is input _ is.answer, ← is.output) (filled (refusal_text 13 malformed.line) new size wrote)

pub returns-in-Ok-clause-value : goal.returns-in-Ok-clause-value
returns-in-Ok-clause-value c = (whole_written _ _ _ c.combine_table.ensures c.in-Ok.is).0

pub returns-in-Err-clause-value : goal.returns-in-Err-clause-value
returns-in-Err-clause-value c = (refusal_written _ _ _ c.combine_table.ensures c.in-Err.is c.write_refusal.ensures.value c.write_refusal.ensures.output_after).0

pub returns-in-Ok-clause-output_after : goal.returns-in-Ok-clause-output_after
returns-in-Ok-clause-output_after c = (whole_written _ _ _ c.combine_table.ensures c.in-Ok.is).1.0

pub returns-in-Err-clause-output_after : goal.returns-in-Err-clause-output_after
returns-in-Err-clause-output_after c = (refusal_written _ _ _ c.combine_table.ensures c.in-Err.is c.write_refusal.ensures.value c.write_refusal.ensures.output_after).1.0

pub returns-in-Ok-clause-front : goal.returns-in-Ok-clause-front
returns-in-Ok-clause-front c = (whole_written _ _ _ c.combine_table.ensures c.in-Ok.is).1.1

pub returns-in-Err-clause-front : goal.returns-in-Err-clause-front
returns-in-Err-clause-front c = (refusal_written _ _ _ c.combine_table.ensures c.in-Err.is c.write_refusal.ensures.value c.write_refusal.ensures.output_after).1.1
