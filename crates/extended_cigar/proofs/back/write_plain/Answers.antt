use Rattle.std.proofs.Common.{◌≡◌, ◌+◌, ◌-◌, ◌<◌, ◌++◌, ◌∷◌, [], false, length, get_or, map, take, sym, ◌∙◌, arith}
use Rattle.std.proofs.Math.Numerals.{add-one}
use Rattle.std.proofs.Math.Seq.{take-suc, take_all}
use Rattle.std.proofs.lemmas.Bool.{and_parts, eqb-true}
use Rattle.std.proofs.lemmas.List.{map-append}
use Rattle.std.proofs.lemmas.List.Sums.{sum_by_more_le}
use Rattle.lists.proofs.Total.{total_is_sum_by}
use Rattle.raw_bam.specs.Cigar.{op_code, read_bases}
use Rattle.raw_bam.specs.Simplified.{joined_word}
use Rattle.raw_bam.proofs.Joining.{joining, joined_none, last_counts, joins_last, begins_entry}
use Rattle.extended_cigar.proofs.Accepted.{AcceptedBack, accepted_back}
use Rattle.extended_cigar.proofs.Counting.{both_alike, counts_read, M-adds}
use Rattle.extended_cigar.proofs.WayBack.{plain_counts, total_plain_words}
use Rattle.extended_cigar.specs.Extended.{is_m}
use Rattle.extended_cigar.specs.Plain.{both_m, plain_word, plain}
use Rattle.extended_cigar.proofs.back.write_plain.Goals as goal
use Rattle.extended_cigar.proofs.back.write_plain.Goals.{At-loop-word, then-n-gt0+then-are_both_m, else-n-gt0, else-n-gt0-via-then-n-gt0+else-are_both_m, else-n-gt0-via-else-n-gt0}

-- what the list meets
accepted : (c : At-loop-word) → AcceptedBack c.args.words.now (length c.args.output.now)
accepted c = accepted_back c.args.words.now (length c.args.output.now) c.requires

pub loop-word-init : goal.loop-word-init
loop-word-init c = record { done = joined_none both_m c.args.output.now; few = omega arith }

pub overflow_add-output : goal.overflow_add-output
overflow_add-output c =
    let words = c.args.words.now in
    let at = c.loop-word in
    let word = c.plain_word-word.result in
    let last = get_or at.output (at.n - 1) 0 in
    let both = and_parts (is_m last) (is_m word) (sym c.are_both_m.ensures ∙ c.if-are_both_m.true) in
    let before = rw (total_plain_words counts_read, total_is_sum_by) at (last_counts both_m both_alike at.invariant.done word read_bases (M-adds counts_read) c.if-n-gt0.true) in
    let own : read_bases word ≡ read_bases (get_or words at.word-index 0) = rw c.plain_word-word.ensures (plain_counts counts_read (get_or words at.word-index 0)) in
    let all = rw total_is_sum_by at (accepted (goal.at.overflow_add-output c).At-loop-word).short in
    omega (arith, before, own, all, sum_by_more_le read_bases words at.word-index 0 c.loop-word-test.true, counts_read.of_m last both.0, counts_read.of_m word both.1, eqb-true (op_code last) 0 both.0, eqb-true (op_code word) 0 both.1)

pub bounds-output-n-else-n-gt0 : goal.bounds-output-n-else-n-gt0
bounds-output-n-else-n-gt0 c =
    let a = accepted (goal.at.bounds-output-n-else-n-gt0 c).At-loop-word in
    omega (arith, a.few, a.output)

pub loop-word-preserved : goal.loop-word-preserved
loop-word-preserved c =
    let words = c.args.words.now in
    let at = c.loop-word in
    let last = get_or at.output (at.n - 1) 0 in
    let word = c.plain_word-word.result in
    let here : at.word-index < length words = omega arith in
    let more : map plain_word (take (at.word-index + 1) words) ≡ map plain_word (take at.word-index words) ++ (word ∷ []) =
    rw (add-one, take-suc words at.word-index 0 here, map-append, c.plain_word-word.ensures) in
    let a = accepted (goal.at.loop-word-preserved c).At-loop-word in
    elim c.if-n-gt0.branch [
      | then-n-gt0+then-are_both_m w ↦
          let both = sym w.are_both_m.ensures ∙ w.if-are_both_m.true in
          let codes = and_parts (is_m last) (is_m word) both in
          let longer : last + word ≡ joined_word last word = omega (arith, eqb-true (op_code last) 0 codes.0, eqb-true (op_code word) 0 codes.1) in
          record { done = rw (more, w.n-is, w.output-is, longer) (joins_last both_m both_alike at.invariant.done word w.if-n-gt0.true both); few = omega arith }
      | else-n-gt0 w ↦
          let other : (0 < at.n → joining both_m last word ≡ false) = elim w.else-n-gt0.branch [
            | else-n-gt0-via-then-n-gt0+else-are_both_m v ↦ λ some. sym v.are_both_m.ensures ∙ v.if-are_both_m.false
            | else-n-gt0-via-else-n-gt0 v ↦ λ some. absurd (omega (arith, v.if-n-gt0.false))
          ] in
          record { done = rw (more, w.n-is, w.output-is) (begins_entry both_m both_alike at.invariant.done word (omega (arith, a.few, a.output)) other); few = omega arith }
    ]

pub returns-clause-count : goal.returns-clause-count
unfolding plain
returns-clause-count c = rw (take_all c.loop-word.word-index c.args.words.now (omega arith)) at c.loop-word.invariant.done.count_is

pub returns-clause-stored : goal.returns-clause-stored
unfolding plain
returns-clause-stored c = rw (take_all c.loop-word.word-index c.args.words.now (omega arith)) at c.loop-word.invariant.done.column_is
