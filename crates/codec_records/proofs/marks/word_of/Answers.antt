-- With a flag still to come the word has at most 63 bits.
use Rattle.std.proofs.Common.{◌^◌, ◌<◌, ◌∷◌, [], ap, refl, arith, rules, length, length-append, append_assoc}
use Rattle.std.proofs.lemmas.List.{append-nil}
use Rattle.codec_records.specs.Marks.{word_of}
use Rattle.codec_records.proofs.Words.{bit_below, bit_of, word_fits}
use Rattle.codec_records.proofs.marks.word_of.Goals as goal
use Rattle.codec_records.proofs.marks.word_of.Goals.{In-Some}

pub loop-flag-init : goal.loop-flag-init
unfolding word_of
loop-flag-init c = ([], rw append-nil (search rules), refl)

room : (c : In-Some) → c.loop-flag.word < 2 ^ 63
room c =
    let done = c.loop-flag.invariant.0 in
    let all = ap length c.loop-flag.invariant.1 in
    rw c.loop-flag.invariant.2 (word_fits done 63 (omega (arith, simp (c.in-Some.ensures.steps, length-append) at all, c.requires)))

pub overflow_mul-word : goal.overflow_mul-word
overflow_mul-word c = omega (arith, room c)

pub overflow_add-word : goal.overflow_add-word
overflow_add-word c = omega (arith, room (goal.at.overflow_add-word c).In-Some, bit_below c.in-Some.field-0.now, rw bit_of at c.from.ensures)

pub loop-flag-preserved : goal.loop-flag-preserved
unfolding word_of
loop-flag-preserved c =
    let done = c.loop-flag.invariant.0 in (
      c.in-Some.field-0.now ∷ done,
      rw (c.in-Some.ensures.steps, append_assoc) at c.loop-flag.invariant.1,
      omega (arith, rw bit_of at c.from.ensures, c.loop-flag.invariant.2),
    )
