-- What a header announces has room.
use Rattle.std.specs.Prelude.{◌≤◌}
use Rattle.record_lines.specs.declared.header.Header.{Header}

-- 9,000 words, 2,100 in COLS, 600 in LIST, 16 in MARKS
pub record Announced (h : Header) : Type 0 where
  pub words : h.words ≤ 9000
  pub columns : h.columns ≤ 2100
  pub list : h.list ≤ 600
  pub marks : h.marks ≤ 16
