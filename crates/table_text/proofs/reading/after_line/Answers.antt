-- The first line goes up to the first line feed; it is compared with the names byte by byte.
use Rattle.std.proofs.Common.{◌≡◌, ℕ, ◌-◌, List, sym, ◌∙◌, arith}
use Rattle.std.proofs.Math.ListN.{take}
use Rattle.std.specs.Cmp.Lexicographic.{same_text, other_text}
use Rattle.table_text.specs.Parts.{Parts, ended}
use Rattle.table_text.proofs.Partings.{part_ended, part_last}
use Rattle.table_text.proofs.reading.after_line.Goals as goal
use Rattle.table_text.proofs.reading.after_line.Goals.{else-end-text-via-then-end-text+else-eq, else-end-text-via-else-end-text}

same_first : (p : Parts) (a b : List ℕ) (more rest : Parts) → p ≡ ended a more → p ≡ ended b rest → a ≡ b
same_first p a b more rest e f = cc

pub returns-then-eq : goal.returns-then-eq
returns-then-eq c =
    let end = c.part_end-end in
    let whole : end.result - 0 ≡ end.result = omega arith in
    let same = same_text (take end.result c.args.text.now) c.args.names.now (sym c.if-eq.true ∙ c.eq.ensures) in
    (omega arith, rw (part_ended 10 _ 0 _ end.ensures.0 c.if-end-text.true, whole, same))

pub returns-else-end-text : goal.returns-else-end-text
returns-else-end-text c =
    let end = c.part_end-end in
    elim c.else-end-text.branch [
      | else-end-text-via-then-end-text+else-eq w ↦ λ more e.
          let whole : end.result - 0 ≡ end.result = omega arith in
          let first = rw whole at (part_ended 10 c.args.text.now 0 end.result end.ensures.0 w.if-end-text.true) in
          other_text (take end.result c.args.text.now) c.args.names.now (sym w.if-eq.false ∙ w.eq.ensures) (same_first _ _ _ _ _ first e)
      | else-end-text-via-else-end-text w ↦ λ more e.
          let whole = part_last 10 c.args.text.now 0 end.result end.ensures.0 (omega arith) w.if-end-text.false in
          absurd (cc)
    ]
