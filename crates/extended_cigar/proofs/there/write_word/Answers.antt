-- An M consumes as many bases of both; any other operation is one word.
use Rattle.std.proofs.Common.{◌≡◌, ◌∙◌, arith, length}
use Rattle.std.proofs.lemmas.Bool.{eq-eqb}
use Rattle.raw_bam.specs.Cigar.{op_code, op_length}
use Rattle.extended_cigar.proofs.Counting.{counts_read, counts_reference}
use Rattle.extended_cigar.specs.Extended.{extended_word}
use Rattle.extended_cigar.proofs.there.write_word.Goals as goal

pub write_match-requires-clause-as_many : goal.write_match-requires-clause-as_many
write_match-requires-clause-as_many c =
    let m = eq-eqb (op_code c.args.word) 0 c.if-word-eq0.true in
    omega (arith, counts_read.of_m c.args.word m, counts_reference.of_m c.args.word m)

pub returns-then-word-eq0-clause-count : goal.returns-then-word-eq0-clause-count
unfolding extended_word
returns-then-word-eq0-clause-count c =
    let m = eq-eqb (op_code c.args.word) 0 c.if-word-eq0.true in
    let bases : length c.args.read.now ≡ op_length c.args.word = c.requires.read ∙ counts_read.of_m c.args.word m in
    rw m (rw bases at c.write_match.ensures.count)

pub returns-then-word-eq0-clause-stored : goal.returns-then-word-eq0-clause-stored
unfolding extended_word
returns-then-word-eq0-clause-stored c =
    let m = eq-eqb (op_code c.args.word) 0 c.if-word-eq0.true in
    let bases : length c.args.read.now ≡ op_length c.args.word = c.requires.read ∙ counts_read.of_m c.args.word m in
    rw m (rw bases at c.write_match.ensures.stored)
