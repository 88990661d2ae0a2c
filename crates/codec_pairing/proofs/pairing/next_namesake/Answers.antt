use Rattle.std.proofs.Common.{◌∙◌, arith}
use Rattle.codec_pairing.proofs.Namesakes.{none_behind}
use Rattle.codec_pairing.proofs.pairing.next_namesake.Goals as goal

pub returns-clause-none : goal.returns-clause-none
returns-clause-none c = c.loop-start.invariant.passed ∙ none_behind _ _ _ _ (omega arith)
