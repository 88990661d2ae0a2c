-- The tag, the sample's number of two digits, the twenty places of its ledger, the line feed.
use Rattle.std.proofs.Common.{◌≡◌, ◌+◌, ◌-◌, ◌*◌, ◌∷◌, ◌++◌, [], take, drop, length-take, arith}
use borrow.Author.Tests.{le-leb}
use Rattle.table_text.specs.Decimal.{decimal}
use Rattle.table_text.specs.Text.{bytes_of}
use Rattle.table_text.proofs.Decimals.{length-decimal}
use Rattle.table_text.proofs.Pages.{appends_then}
use Rattle.answer_text.specs.Line.{fields_by, fields_text, line_with}
use Rattle.answer_text.specs.SampleText.{sample_text}
use Rattle.answer_text.proofs.sample_line.write_sample.Goals as goal

pub write_field-requires : goal.write_field-requires
write_field-requires c = rw c.from.ensures (omega (arith, length-decimal 1 c.in-Some.sample (omega arith)))

pub write_fields-requires : goal.write_fields-requires
write_fields-requires c = simp length-take (omega (arith, length-decimal 1 c.in-Some.sample (omega arith), rw c.from.ensures at c.write_field.ensures.end))

pub push-requires : goal.push-requires
push-requires c =
    omega (arith, length-decimal 1 c.in-Some.sample (omega arith), rw c.from.ensures at c.write_field.ensures.end, simp length-take at c.write_fields.ensures.upper_bound)

pub returns-clause-appended : goal.returns-clause-appended
unfolding sample_text line_with fields_by
returns-clause-appended c =
    let s = c.in-Some.sample in
    let counts = take 20 (drop (20 * s) c.args.samples.now) in
    let twenty : 20 * s + 20 - 20 * s ≡ 20 = omega arith in
    let field = rw c.from.ensures at c.write_field.ensures in
    let fields = appends_then (32 ∷ decimal s) (fields_text counts) field (rw twenty at c.write_fields.ensures.appended) in
    rw (c.in-Some.is, le-leb s 95 (omega arith))
    (appends_then (bytes_of "TS") (fields_text (s ∷ counts) ++ (10 ∷ [])) c.write.ensures (appends_then (fields_text (s ∷ counts)) (10 ∷ []) fields c.push.ensures))

pub returns-clause-upper_bound : goal.returns-clause-upper_bound
returns-clause-upper_bound c =
    omega (arith, length-decimal 1 c.in-Some.sample (omega arith), rw c.from.ensures at c.write_field.ensures.end, simp length-take at c.write_fields.ensures.upper_bound)
