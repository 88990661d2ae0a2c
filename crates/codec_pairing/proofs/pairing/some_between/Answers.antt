use Rattle.std.proofs.Common.{◌∙◌, sym, arith}
use Rattle.codec_pairing.proofs.Namesakes.{none_between, none_named_between}
use Rattle.codec_pairing.proofs.pairing.some_between.Goals as goal

pub returns-then-not-has_name : goal.returns-then-not-has_name
returns-then-not-has_name c = λ no. none_named_between _ _ _ c.args.from c.args.to (omega arith) (omega arith) c.args.family.now.alike.as_many_names (sym c.has_name.ensures ∙ c.if-not-has_name.true)

pub returns : goal.returns
returns c = λ no. none_between _ _ _ c.args.from c.args.to (omega arith) (omega arith) (sym c.has_namesake_between.ensures ∙ no)
