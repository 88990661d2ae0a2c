-- By the tests: a line past the last, a line without its line feed, a line that may hold a row.
use Rattle.std.proofs.Common.{◌≡◌, ◌<◌, ℕ, false, refl, arith}
use Rattle.std.proofs.lemmas.Bool.{lt-leb}
use Rattle.table_text.specs.Parts.{Parts, last, ended}
use Rattle.table_text.specs.Reading.{may_hold}
use Rattle.table_text.proofs.Partings.{part_ended, part_last}
use Rattle.table_text.proofs.reading.line_end.Goals as goal

past-last : (line : ℕ) (p : Parts) → 2049 < line → may_hold line p ≡ false
past-last line (last text) h = refl
past-last line (ended text more) h = lt-leb line 2049 h

pub returns-then-end-text : goal.returns-then-end-text
returns-then-end-text c =
    let end = c.part_end-end.ensures.0 in
    (c.if-line-gt-LAST_LINE.false, omega arith, c.if-end-text.true, part_ended 10 _ _ _ end c.if-end-text.true)

pub returns-else-end-text : goal.returns-else-end-text
returns-else-end-text c = rw (part_last 10 _ _ _ c.part_end-end.ensures.0 (omega arith) c.if-end-text.false)
