-- The lines are counted, and then compared from where the names end.
use mathlib.Core.Path.{◌≡◌, sym, ◌∙◌}
use Rattle.codec_duplex.specs.declared.position.Position.{Position}
use Rattle.table_text.specs.InputTable.{Reading}
use Rattle.table_text.specs.Reading.{Table}
use Rattle.partner_table.specs.Check.{first_wrong, combined_rows}
use Rattle.partner_table.proofs.Lines.{lines_unequal, lines_equal}
use Rattle.partner_table.proofs.compare.compare_tables.Goals as goal

same_rows : (t u : Reading) (p q : Table Position) → t ≡ u → p ≡ q → first_wrong 2 (combined_rows t.rows) p.rows ≡ first_wrong 2 (combined_rows u.rows) q.rows
same_rows t u p q e f = rw (e, f)

pub returns-then-ended_parts : goal.returns-then-ended_parts
returns-then-ended_parts c = sym (lines_unequal c.args.ours.now c.args.theirs.now c.requires.0 c.requires.1 (λ e. c.if-ended_parts.true (c.ended_parts.ensures ∙ e ∙ sym c.ended_parts-2.ensures)))

pub returns : goal.returns
returns c =
    let counted = lines_equal c.args.ours.now c.args.theirs.now c.requires.0 c.requires.1 (sym c.ended_parts.ensures ∙ c.if-ended_parts.false ∙ c.ended_parts-2.ensures) in
    let our_names = rw c.in-Some.is at c.after_names.ensures in
    let their_names = rw c.in-Some-after_names.is at c.after_names-2.ensures in
    c.compare_lines.ensures ∙ sym (counted ∙ same_rows _ _ _ _ our_names.1 their_names.1)
