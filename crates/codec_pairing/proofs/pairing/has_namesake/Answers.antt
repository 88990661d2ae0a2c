use Rattle.std.proofs.Common.{◌∙◌, sym}
use Rattle.codec_pairing.proofs.Namesakes.{some_found, none_named}
use Rattle.codec_pairing.proofs.pairing.has_namesake.Goals as goal

pub returns-then-has_name : goal.returns-then-has_name
returns-then-has_name c = c.is_some.ensures ∙ some_found _ _ _ c.next_namesake.ensures.none c.next_namesake.ensures.next

pub returns-else-has_name : goal.returns-else-has_name
returns-else-has_name c = c.if-has_name.false ∙ sym (none_named _ _ _ _ c.requires c.args.family.now.alike.as_many_names (sym c.has_name.ensures ∙ c.if-has_name.false))
