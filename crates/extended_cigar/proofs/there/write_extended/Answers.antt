use Rattle.std.proofs.Common.{◌≡◌, ◌∙◌, ◌+◌, ◌<◌, ◌≤◌, ◌++◌, ◌∷◌, [], length, get_or, drop, length-append, length-take, length-drop, drop_of_length-le, refl, sym, arith, append_assoc}
use Rattle.std.proofs.Math.Numerals.{add-one}
use Rattle.std.proofs.Math.Seq.{drop-cons}
use Rattle.std.proofs.lemmas.List.{append-nil}
use Rattle.lists.specs.Total.{total}
use Rattle.raw_bam.specs.Cigar.{read_bases, reference_bases, read_length, reference_length}
use Rattle.extended_cigar.proofs.Accepted.{AcceptedThere, accepted_there}
use Rattle.extended_cigar.proofs.Left.{from_parts, written_behind}
use Rattle.extended_cigar.proofs.WayThere.{length_word}
use Rattle.extended_cigar.specs.Extended.{extended_word, extended_from, extended}
use Rattle.extended_cigar.proofs.there.write_extended.Goals as goal
use Rattle.extended_cigar.proofs.there.write_extended.Goals.{At-loop-word}

accepted : (c : At-loop-word) → AcceptedThere c.args.words.now c.args.read.now c.args.reference.now (length c.args.output.now)
accepted c = accepted_there _ _ _ _ c.requires

-- the operations left, the next one first
next : (c : At-loop-word) → c.loop-word.word-index < length c.args.words.now
    → drop c.loop-word.word-index c.args.words.now ≡ get_or c.args.words.now c.loop-word.word-index 0 ∷ drop (c.loop-word.word-index + 1) c.args.words.now
next c here = rw add-one (drop-cons c.args.words.now c.loop-word.word-index 0 here)

-- the bases left, and the room
record Left (c : At-loop-word) : Type 0 where
  read : length c.loop-word.read_left.now ≡ read_bases (get_or c.args.words.now c.loop-word.word-index 0) + read_length (drop (c.loop-word.word-index + 1) c.args.words.now)
  reference : length c.loop-word.reference_left.now ≡ reference_bases (get_or c.args.words.now c.loop-word.word-index 0) + reference_length (drop (c.loop-word.word-index + 1) c.args.words.now)
  room : c.loop-word.n + length c.loop-word.read_left.now + length (drop (c.loop-word.word-index + 1) c.args.words.now) < 1088

left : (c : At-loop-word) → c.loop-word.word-index < length c.args.words.now → Left c
unfolding total
left c here =
    let so_far = c.loop-word.invariant in
    record { read = rw (next c here) at so_far.4; reference = rw (next c here) at so_far.5; room = omega (arith, rw (next c here) at so_far.7) }

pub loop-word-init : goal.loop-word-init
unfolding extended
loop-word-init c =
    let a = accepted_there _ _ _ _ c.requires in
    ([], refl, refl, refl, a.bases, a.reference_bases_lem, omega (arith, a.bases, a.short), omega (arith, a.bases, a.short, a.few))

pub split_at-requires : goal.split_at-requires
split_at-requires c = omega (arith, (left (goal.at.split_at-requires c).At-loop-word c.loop-word-test.true).read, c.bases_of-bases.ensures.read)

pub split_at-requires-in-loop-word : goal.split_at-requires-in-loop-word
split_at-requires-in-loop-word c = omega (arith, (left (goal.at.split_at-requires-in-loop-word c).At-loop-word c.loop-word-test.true).reference, c.bases_of-bases.ensures.reference)

pub write_word-n-requires-clause-room : goal.write_word-n-requires-clause-room
write_word-n-requires-clause-room c =
    let at = (goal.at.write_word-n-requires-clause-room c).At-loop-word in
    let l = left at c.loop-word-test.true in
    simp (length-take, length-drop) (omega (arith, l.read, l.room, (accepted at).output))

pub loop-word-preserved : goal.loop-word-preserved
loop-word-preserved c =
    let at = (goal.at.loop-word-preserved c).At-loop-word in
    let l = left at c.loop-word-test.true in
    let so_far = c.loop-word.invariant in
    let done = so_far.0 in
    let word = get_or c.args.words.now c.loop-word.word-index 0 in
    let read = c.loop-word.read_left.now in
    let reference = c.loop-word.reference_left.now in
    let rest = drop (c.loop-word.word-index + 1) c.args.words.now in
    let own = extended_word c.split_at.result.0.now c.split_at-in-loop-word.result.0.now 0 0 word in
    let more = rw (next at c.loop-word-test.true, from_parts read reference word rest) at so_far.1 in
    let bases = c.bases_of-bases.ensures in
    let split = c.split_at.ensures in
    let reference_split = c.split_at-in-loop-word.ensures in
    let few = length_word c.split_at.result.0.now c.split_at-in-loop-word.result.0.now 0 0 word in (
      done ++ own,
      append_assoc done own _ ∙ (cc more),
      rw length-append (omega (arith, so_far.2, c.write_word-n.ensures.count)),
      rw (c.write_word-n.ensures.stored, so_far.3, so_far.2) (written_behind done own c.args.output.now),
      omega (arith, l.read, split.back_len, bases.read),
      omega (arith, l.reference, reference_split.back_len, bases.reference),
      omega (arith, split.back_len, so_far.6),
      omega (arith, l.room, split.back_len, bases.read, c.write_word-n.ensures.count, few),
    )

-- no operation is left
whole : (c : At-loop-word) → length c.args.words.now ≤ c.loop-word.word-index → c.loop-word.invariant.0 ≡ extended c.args.words.now c.args.read.now c.args.reference.now
unfolding extended_from
whole c none = sym (append-nil c.loop-word.invariant.0) ∙ rw (drop_of_length-le c.args.words.now {i = c.loop-word.word-index} none) at c.loop-word.invariant.1

pub returns-clause-count : goal.returns-clause-count
returns-clause-count c = rw (whole (goal.at.returns-clause-count c).At-loop-word c.loop-word-test.false) at c.loop-word.invariant.2

pub returns-clause-stored : goal.returns-clause-stored
returns-clause-stored c = rw (whole (goal.at.returns-clause-stored c).At-loop-word c.loop-word-test.false) at c.loop-word.invariant.3
