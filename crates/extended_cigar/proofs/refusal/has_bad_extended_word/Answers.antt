use Rattle.std.proofs.Common.{ap, rules, tests}
use Rattle.std.specs.Prelude.{not}
use Rattle.std.proofs.lemmas.Iterator.{YieldsList-from_slice}
use Rattle.std.proofs.lemmas.Iterator.Search.{all_from_yields_List}
use Rattle.raw_bam.specs.Cigar.{is_operation}
use Rattle.extended_cigar.specs.Refusals.{bad_extended_words}
use Rattle.extended_cigar.proofs.refusal.has_bad_extended_word.Goals as goal

pub returns : goal.returns
unfolding bad_extended_words
returns c = ap not (all_from_yields_List is_operation _ _ _ c.all.ensures.ran (YieldsList-from_slice c.args.words.now cc) (λ x b q k. search (rules, tests)))
