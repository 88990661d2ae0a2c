-- What 01's call leaves of the ledger that decides is kept in the run's books and in the sample's.
use mathlib.Core.Path.{◌≡◌}
use Prim.Native.Nat.{◌<◌}
use native.Mathlib.Omega.{arith}
use borrow.Author.Rules.{rules}
use lib.ListN.{length}
use Rattle.codec_samples.proofs.Sampling.{sampled_refused_call, refused_twenty, addable_to_both, books_kept}
use Rattle.codec_samples.proofs.family.consensus_reads_sampled.Goals as goal

pub returns-then-is_above-clause-called : goal.returns-then-is_above-clause-called
returns-then-is_above-clause-called c =
    let above : 95 < c.args.sample = omega arith in
    λ rs words size chosen. sampled_refused_call _ _ _ _ _ (refused_twenty _ _ above)

pub keep_books-requires-clause-addable : goal.keep_books-requires-clause-addable
keep_books-requires-clause-addable c = λ goes_on.
    let whole : length c.args.samples.now ≡ 1920 = search rules in
    addable_to_both _ c.args.sample c.args.ledger c.args.samples.now whole (omega arith) c.read_sample-own.result c.read_sample-own.ensures c.deciding_ledger-deciding.result c.deciding_ledger-deciding.ensures _ _ c.consensus_reads_raw-answer.result
    (c.consensus_reads_raw-answer.ensures.called c.requires.records c.requires.ops c.requires.size c.requires.selected) goes_on

pub returns-clause-called : goal.returns-clause-called
returns-clause-called c = λ rs words size chosen.
    let whole : length c.args.samples.now ≡ 1920 = search rules in
    books_kept _ c.args.sample c.args.ledger c.args.samples.now whole (omega arith) c.read_sample-own.result c.read_sample-own.ensures c.deciding_ledger-deciding.result c.deciding_ledger-deciding.ensures _ _ c.consensus_reads_raw-answer.result
    (c.consensus_reads_raw-answer.ensures.called rs words size chosen) c.keep_books.result _ c.keep_books.ensures.value c.keep_books.ensures.samples_after
