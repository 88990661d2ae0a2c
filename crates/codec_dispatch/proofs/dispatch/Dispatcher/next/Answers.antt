-- The lanes are looked at in the circle's order.
use Rattle.std.proofs.Common.{rules, tests, ◌∙◌, sym, ◌+◌, ◌%◌, refl}
use Rattle.std.proofs.lemmas.Iterator.{YieldsList-from_map, YieldsList-from_range}
use Rattle.std.proofs.lemmas.Iterator.Adapters.{option_map_id}
use Rattle.std.proofs.lemmas.Iterator.Consumers.{YieldsList-at}
use Rattle.std.proofs.lemmas.Iterator.Search.{find_from_yields_List}
use Rattle.codec_dispatch.specs.Dispatch.{waits, circle}
use Rattle.codec_dispatch.proofs.dispatch.Dispatcher.next.Goals as goal

pub returns-clause-value : goal.returns-clause-value
unfolding circle
returns-clause-value c =
    let d = c.args.self.now in
    sym (option_map_id c.find.result)
    ∙ find_from_yields_List (waits d) _ _ c.find.result c.find.ensures.ran
    (YieldsList-from_map {s = c.map.result} _ (λ k. (d.last + 1 + k) % 8) (YieldsList-at c.map.ensures.source (YieldsList-from_range 0 8 8 refl refl)) c.map.ensures.closure (λ x r q k. search (rules, tests)))
    (λ x b q k. search (rules, tests))
