use Rattle.std.proofs.Common.{◌≡◌, ◌+◌, ◌-◌, ◌*◌, ◌/◌, ◌<◌, ◌++◌, ◌∷◌, ℕ, List, [], length, get_or, arith}
use Rattle.std.proofs.Math.Dec.{eqb}
use Rattle.std.proofs.Math.ListN.{set}
use Rattle.std.proofs.Math.Nat.{zero-add}
use Rattle.std.proofs.Math.Numerals.{add-one}
use Rattle.std.proofs.Math.Seq.{get_or-set_same}
use Rattle.std.proofs.lemmas.Bool.{eq-eqb, ne_eqb, eqb-true}
use Rattle.std.proofs.lemmas.List.{set-set}
use Rattle.lists.specs.Tabulate.{tabulate}
use Rattle.raw_bam.specs.Cigar.{op_code, op_length}
use Rattle.raw_bam.specs.Simplified.{joined_word, joined_by}
use Rattle.raw_bam.proofs.Joining.{JoinedIn, joined_none, joins_last, begins_entry}
use Rattle.extended_cigar.specs.Extended.{base_by_base}
use Rattle.extended_cigar.proofs.Runs.{length_base}
use Rattle.extended_cigar.proofs.there.write_match.Goals as goal
use Rattle.extended_cigar.proofs.there.write_match.Goals.{then-last-word, else-last-word}

-- one word more, where the last one is at hand
module _ {words old : List ℕ} (column : List ℕ) (n last : ℕ) (so_far : JoinedIn eqb words old (set column n last) (n + 1)) (inside : n < length column) (word : ℕ) where
  held : get_or (set column n last) (n + 1 - 1) 0 ≡ last
  held =
      let behind : n + 1 - 1 ≡ n = omega arith in
      rw behind (get_or-set_same column n last 0 inside)

  grown : op_code last ≡ op_code word → JoinedIn eqb (words ++ (word ∷ [])) old (set column n (joined_word last word)) (n + 1)
  grown same =
      let behind : n + 1 - 1 ≡ n = omega arith in
      rw (behind, get_or-set_same column n last 0 inside, set-set column n last (joined_word last word)) at (joins_last eqb eqb-true so_far word (omega arith) (rw held (eq-eqb (op_code last) (op_code word) same)))

  begun : n + 1 < length old → (op_code last ≡ op_code word → ⊥) → JoinedIn eqb (words ++ (word ∷ [])) old (set (set column n last) (n + 1) word) (n + 1 + 1)
  begun room differ = begins_entry eqb eqb-true so_far word room (λ some. rw held (ne_eqb (op_code last) (op_code word) differ))

pub returns-then-bases-eq0-clause-count : goal.returns-then-bases-eq0-clause-count
unfolding base_by_base tabulate joined_by
returns-then-bases-eq0-clause-count c = rw c.if-bases-eq0.true

pub returns-then-bases-eq0-clause-stored : goal.returns-then-bases-eq0-clause-stored
unfolding base_by_base tabulate joined_by
returns-then-bases-eq0-clause-stored c = rw c.if-bases-eq0.true

pub loop-k-init : goal.loop-k-init
unfolding base_by_base tabulate
loop-k-init c =
    let first = c.base_word-last.result in
    let one : op_length first ≡ 1 = rw c.base_word-last.ensures (length_base (get_or c.args.read.now 0 0) (get_or c.args.reference.now 0 0)) in
    let begins = begins_entry eqb eqb-true (joined_none eqb c.args.output.now) first (omega arith) (λ some. absurd (omega arith)) in
    record { done = rw (← c.base_word-last.ensures) begins; few = omega arith; fits = omega (arith, one) }

pub overflow_add-last : goal.overflow_add-last
overflow_add-last c =
    let one : op_length c.base_word-word.result ≡ 1 = rw c.base_word-word.ensures (length_base (get_or c.args.read.now c.loop-k.k 0) (get_or c.args.reference.now c.loop-k.k 0)) in
    omega (arith, one, c.loop-k.invariant.fits)

pub loop-k-preserved : goal.loop-k-preserved
unfolding base_by_base tabulate
loop-k-preserved c =
    let at = c.loop-k in
    let word = c.base_word-word.result in
    let inside : at.n < length at.output = omega arith in
    let one : op_length word ≡ 1 = rw c.base_word-word.ensures (length_base (get_or c.args.read.now at.k 0) (get_or c.args.reference.now at.k 0)) in
    let more : base_by_base c.args.read.now c.args.reference.now 0 0 (at.k + 1) ≡ base_by_base c.args.read.now c.args.reference.now 0 0 at.k ++ (word ∷ []) =
    rw (add-one, zero-add, c.base_word-word.ensures) in
    elim c.if-last-word.branch [
      | then-last-word w ↦
          let longer : at.last + word / 16 * 16 ≡ joined_word at.last word = omega arith in
          record {
            done = rw (more, w.n-is, w.output-is, w.last-is, longer) (grown at.output at.n at.last at.invariant.done inside word w.if-last-word.true);
            few = omega (arith, w.n-is);
            fits = omega (arith, w.last-is, one);
          }
      | else-last-word w ↦
          record {
            done = rw (more, w.n-is, w.output-is, w.last-is) (begun at.output at.n at.last at.invariant.done inside word (omega arith) w.if-last-word.false);
            few = omega (arith, w.n-is);
            fits = omega (arith, w.last-is, one);
          }
    ]

pub returns-clause-count : goal.returns-clause-count
returns-clause-count c =
    let whole : c.loop-k.k ≡ length c.args.read.now = omega arith in
    rw whole at c.loop-k.invariant.done.count_is

pub returns-clause-stored : goal.returns-clause-stored
returns-clause-stored c =
    let whole : c.loop-k.k ≡ length c.args.read.now = omega arith in
    rw whole at c.loop-k.invariant.done.column_is
