use mathlib.Core.List.{[], ◌∷◌, ◌++◌, map, map-append}
use mathlib.Core.Bool.{false}
use mathlib.Core.Path.{◌≡◌, refl}
use Prim.Native.Nat.{◌+◌, ◌-◌, ◌*◌, ◌/◌, ◌<◌}
use native.Mathlib.Numerals.{add-one}
use native.Mathlib.Omega.{arith}
use borrow.Author.Tests.{eq-eqb, ne_eqb, eqb-true}
use lib.Dec.{eqb}
use lib.ListN.{length, get_or, take}
use lib.Seq.{take-suc, take_all, get_or-set_same}
use Rattle.raw_bam.specs.Cigar.{op_code}
use Rattle.raw_bam.specs.Simplified.{simple_entry, joined_word, joined_by}
use Rattle.raw_bam.proofs.InOrder.{in_order, length-in_order, simplified-in_order, entry_read}
use Rattle.raw_bam.proofs.Joining.{JoinedIn, joined_none, joins_last, begins_entry}
use Rattle.raw_bam.proofs.simplified.simplify_cigar_from_raw.Goals as goal
use Rattle.raw_bam.proofs.simplified.simplify_cigar_from_raw.Goals.{After-simple_entry-entry, After-loop-i, then-n-gt0+then-entries-n, else-n-gt0, else-n-gt0-via-then-n-gt0+else-entries-n, else-n-gt0-via-else-n-gt0}

-- the entries of the operations passed, with the next one
next : (c : After-simple_entry-entry)
    → let xs = in_order c.args.reverse c.args.ops.now in
    map simple_entry (take (c.loop-i.i + 1) xs) ≡ map simple_entry (take c.loop-i.i xs) ++ (c.simple_entry-entry.result ∷ [])
next c =
    let xs = in_order c.args.reverse c.args.ops.now in
    let here : c.loop-i.i < length xs = omega (arith, length-in_order c.args.reverse c.args.ops.now) in
    rw (add-one c.loop-i.i, take-suc xs c.loop-i.i 0 here, map-append, entry_read c.args.reverse c.args.ops.now c.loop-i.i _ _ (omega arith) c.place.ensures.value c.simple_entry-entry.ensures.value)

pub loop-i-init : goal.loop-i-init
loop-i-init c = record { done = joined_none eqb c.args.entries.now; few = omega arith; last_fits = λ some. absurd (omega arith) }

pub loop-i-preserved : goal.loop-i-preserved
loop-i-preserved c =
    let more = next (goal.at.loop-i-preserved c).After-simple_entry-entry in
    let at = c.loop-i in
    let so_far = at.invariant in
    let last = get_or at.entries (at.n - 1) 0 in
    let entry = c.simple_entry-entry.result in
    elim c.if-n-gt0.branch [
      | then-n-gt0+then-entries-n w ↦
          let longer : last + entry / 16 * 16 ≡ joined_word last entry = omega arith in
          let place : at.n - 1 < length at.entries = omega arith in
          record {
            done = rw (more, w.n-is, w.entries-is, longer) (joins_last eqb eqb-true so_far.done entry w.if-n-gt0.true (eq-eqb (op_code last) (op_code entry) w.if-entries-n.true));
            few = omega arith;
            last_fits = λ some. rw (w.entries-is, w.n-is, get_or-set_same at.entries (at.n - 1) (last + entry / 16 * 16) 0 place) (omega (arith, so_far.last_fits w.if-n-gt0.true));
          }
      | else-n-gt0 w ↦
          let other : (0 < at.n → eqb (op_code last) (op_code entry) ≡ false) = elim w.else-n-gt0.branch [
            | else-n-gt0-via-then-n-gt0+else-entries-n v ↦ λ some. ne_eqb (op_code last) (op_code entry) v.if-entries-n.false
            | else-n-gt0-via-else-n-gt0 v ↦ λ some. absurd (omega (arith, v.if-n-gt0.false))
          ] in
          let place : at.n < length at.entries = omega arith in
          let behind : at.n + 1 - 1 ≡ at.n = omega arith in
          record {
            done = rw (more, w.n-is, w.entries-is) (begins_entry eqb eqb-true so_far.done entry (omega arith) other);
            few = omega arith;
            last_fits = λ some. rw (w.entries-is, w.n-is, behind, get_or-set_same at.entries at.n entry 0 place) (omega arith);
          }
    ]

-- the operations passed are all
whole : (c : After-loop-i) → JoinedIn eqb (map simple_entry (in_order c.args.reverse c.args.ops.now)) c.args.entries.now c.loop-i.entries c.loop-i.n
whole c =
    let all = take_all c.loop-i.i (in_order c.args.reverse c.args.ops.now) (omega (arith, length-in_order c.args.reverse c.args.ops.now)) in
    rw all at c.loop-i.invariant.done

pub returns-clause-count : goal.returns-clause-count
returns-clause-count c = rw simplified-in_order (whole (goal.at.returns-clause-count c).After-loop-i).count_is

pub returns-clause-stored : goal.returns-clause-stored
returns-clause-stored c = rw simplified-in_order (whole (goal.at.returns-clause-stored c).After-loop-i).column_is
