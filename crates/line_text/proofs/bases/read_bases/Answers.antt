-- By the tests: another tag, no field, more than one, a field that is too short or too long, bases.
use Rattle.std.proofs.Common.{◌≡◌, ◌+◌, ◌-◌, ◌<◌, ◌≤◌, ℕ, Bool, true, false, List, [], refl, sym, arith, Some, None, cond, leb, ◌&&◌, length, take, drop}
use Rattle.std.specs.Bool.{then_some}
use Rattle.std.specs.Borrow.{Bor}
use Rattle.std.specs.Option.{option_map}
use Rattle.table_text.specs.Bytes.{index_of}
use Rattle.table_text.specs.Fields.{fields_from}
use Rattle.table_text.proofs.FieldLists.{fields_none, fields_next, fields_some}
use Rattle.line_text.specs.Bases.{bases_of, bases_line}
use Rattle.line_text.proofs.bases.read_bases.Goals as goal

shown : (t : Bool) (bases : Bor (List ℕ)) → option_map (λ b. b.now) (then_some t bases) ≡ cond t (Some bases.now) None
shown true bases = refl
shown false bases = refl

module _ (line : List ℕ) (start : ℕ) where
  none_follow : length line < start → bases_of (fields_from line start) ≡ Some []
  unfolding bases_of
  none_follow past = rw (fields_none line start past)

  more_follow : (end : ℕ) → start ≤ length line → end ≡ start + index_of 32 (drop start line) → end < length line → bases_of (fields_from line start) ≡ None
  unfolding bases_of
  more_follow end inside is h = rw (fields_next line start end inside is (omega arith), (fields_some line (end + 1) (omega arith)).2)

  one_follows : (end : ℕ) → start ≤ length line → end ≡ start + index_of 32 (drop start line) → end ≤ length line → length line ≤ end
      → bases_of (fields_from line start) ≡ cond (leb 1 (length (take (end - start) (drop start line))) && leb (length (take (end - start) (drop start line))) 1100) (Some (take (end - start) (drop start line))) None
  unfolding bases_of
  one_follows end inside is within whole = rw (fields_next line start end inside is within, fields_none line (end + 1) (omega arith))

pub returns-in_err-start : goal.returns-in_err-start
unfolding bases_line
returns-in_err-start c = rw (c.from_residual.ensures, ← c.in_err-start.ensures)

pub returns-then-line-start : goal.returns-then-line-start
unfolding bases_line
returns-then-line-start c = rw (← c.in_ok-start.ensures) (sym (none_follow _ _ c.if-line-start.true))

pub returns-then-end-line : goal.returns-then-end-line
unfolding bases_line
returns-then-end-line c = rw (← c.in_ok-start.ensures) (sym (more_follow _ _ _ c.if-line-start.false c.part_end-end.ensures.0 c.if-end-line.true))

pub returns : goal.returns
unfolding bases_line
returns c = rw (← c.in_ok-start.ensures, one_follows _ _ _ c.if-line-start.false c.part_end-end.ensures.0 c.part_end-end.ensures.1 c.if-end-line.false, c.then_some.ensures) (shown _ _)
