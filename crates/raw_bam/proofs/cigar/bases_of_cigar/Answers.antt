-- One operation more.
use native.Mathlib.Omega.{arith}
use borrow.Author.Rules.{rules}
use lib.Seq.{take_all}
use Rattle.lists.specs.Total.{total}
use Rattle.lists.proofs.Total.{total_more}
use Rattle.raw_bam.specs.Cigar.{read_bases, reference_bases}
use Rattle.raw_bam.proofs.cigar.bases_of_cigar.Goals as goal

pub loop-word-init : goal.loop-word-init
unfolding total
loop-word-init c = search rules

pub loop-word-preserved : goal.loop-word-preserved
loop-word-preserved c =
    let ops = c.args.ops.now in
    let i = c.loop-word.word-index in
    let bases = c.bases_of-bases.ensures in
    record {
      read = omega (arith, total_more read_bases ops i 0 (omega arith), bases.read);
      reference = omega (arith, total_more reference_bases ops i 0 (omega arith), bases.reference);
      read_fits = omega (arith, bases.read_short);
      reference_fits = omega (arith, bases.reference_short);
    }
