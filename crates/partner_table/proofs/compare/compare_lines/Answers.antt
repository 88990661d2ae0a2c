-- The first wrong line of both tables is that of the lines left.
use Rattle.std.proofs.Common.{◌≡◌, ◌+◌, ℕ, List, Option, Some, sym, ◌∙◌, ap}
use Rattle.codec_duplex.specs.Position.{combined}
use Rattle.codec_duplex.specs.declared.position.Position.{Position}
use Rattle.table_text.specs.InputTable.{Reading}
use Rattle.table_text.specs.Reading.{Table, NextRead}
use Rattle.table_text.specs.Rows.{position_line, row_of}
use Rattle.table_text.proofs.Tables.{table_end}
use Rattle.partner_table.specs.Check.{first_wrong_field, wrong_or}
use Rattle.partner_table.specs.declared.fault.Field.{Field}
use Rattle.partner_table.proofs.Lines.{wrong_from, none_ours, none_theirs, line_compared}
use Rattle.partner_table.proofs.compare.compare_lines.Goals as goal

-- the first wrong line is this one, or the first after it
line_told : (ours theirs : List ℕ) (start given line at given_at : ℕ) {first second : Position} {position : Position} {after given_after : ℕ} {right : Position} {field : Option Field}
    → wrong_from ours theirs 2 start given ≡ wrong_from ours theirs line at given_at → NextRead row_of ours line at (Some ((first, second), after))
    → NextRead position_line theirs line given_at (Some (position, given_after)) → right ≡ combined first second → field ≡ first_wrong_field right position
    → wrong_from ours theirs 2 start given ≡ wrong_or line field (wrong_from ours theirs (line + 1) after given_after)
line_told ours theirs start given line at given_at {first} {second} {position} {after} {given_after} so_far row_read position_read is e =
    so_far
    ∙ line_compared ours theirs line at given_at (first, second) position after given_after row_read position_read
    ∙ ap (λ (field : Option Field). wrong_or line field (wrong_from ours theirs (line + 1) after given_after)) (sym (e ∙ ap (λ (r : Position). first_wrong_field r position) is))

pub returns-in_default : goal.returns-in_default
returns-in_default c = sym (c.loop-at.invariant.2 ∙ none_ours _ _ _ (ap (λ (r : Reading). r.rows) (rw c.in_default.is at c.next_row.ensures)))

pub returns-then-theirs-given_at : goal.returns-then-theirs-given_at
returns-then-theirs-given_at c = sym (c.loop-at.invariant.2 ∙ none_theirs _ _ _ (ap (λ (r : Table Position). r.rows) (table_end position_line _ _ _ c.if-theirs-given_at.true)))

pub returns-in_default-next_row : goal.returns-in_default-next_row
returns-in_default-next_row c = sym (c.loop-at.invariant.2 ∙ none_theirs _ _ _ (ap (λ (r : Table Position). r.rows) (rw c.in_default-next_row.is at c.next_row-in-loop-at.ensures)))

pub returns-in-Some-first_wrong_field : goal.returns-in-Some-first_wrong_field
returns-in-Some-first_wrong_field c =
    sym (rw c.in-Some-first_wrong_field.is at (line_told c.args.ours.now c.args.theirs.now c.args.start c.args.given c.loop-at.line c.loop-at.at c.loop-at.given_at c.loop-at.invariant.2 c.in-Some.ensures c.in-Some-next_row.ensures c.combine-right.ensures c.first_wrong_field.ensures))

pub loop-at-preserved : goal.loop-at-preserved
loop-at-preserved c =
    let row_read = c.in-Some.ensures in
    let position_read = c.in-Some-next_row.ensures in
    (row_read.2, position_read.2, rw c.in_default-first_wrong_field.is at (line_told c.args.ours.now c.args.theirs.now c.args.start c.args.given c.loop-at.line c.loop-at.at c.loop-at.given_at c.loop-at.invariant.2 row_read position_read c.combine-right.ensures c.first_wrong_field.ensures))

pub returns : goal.returns
returns c = sym (c.loop-at.invariant.2 ∙ none_ours _ _ _ (ap (λ (r : Reading). r.rows) (table_end row_of _ _ _ c.loop-at-test.false)))
