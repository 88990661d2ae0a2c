-- A column of numbers that is read is what its line says.
use Rattle.std.proofs.Common.{◌≡◌, ℕ, List, map, refl, sym, ◌∙◌, ap, Result, Ok, Err}
use Rattle.std.proofs.lemmas.List.{map-id}
use Rattle.std.specs.Borrow.{Bor}
use Rattle.table_text.specs.Parts.{Parts}
use Rattle.line_text.specs.Numbers.{numbers_line}
use Rattle.line_text.specs.Reading.{one_line, lines_from, read_as, Reads}
use Rattle.line_text.specs.declared.lines.Stop.{Stop}
use Rattle.strand_lines.specs.Strands.{column_from}

-- numbers are read as themselves
pub numbers_are : (text : List ℕ) (r : Result (Bor (List ℕ) × ℕ) Stop) → read_as (λ ns. ns.now) text r ≡ read_as (λ ns. map (λ n. n) ns.now) text r
numbers_are text (Ok (ns, at)) = ap (λ xs. Ok (xs, lines_from text at)) (sym (map-id ns.now))
numbers_are text (Err stop) = refl

module _ (tag : List ℕ) (limit : ℕ) where
  pub column_read : {text : List ℕ} (room : ℕ) (p : Parts) {r : Result (Bor (List ℕ) × ℕ) Stop} → Reads (λ ns. map (λ n. n) ns.now) text r (one_line (numbers_line tag limit room) p) → room ≡ 1100 → Reads (λ ns. ns.now) text r (column_from tag limit p)
  unfolding column_from
  column_read {text} room p {r} read long = record { same = numbers_are text r ∙ read.same ∙ rw long; within = read.within }
