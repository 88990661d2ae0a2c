-- The best group so far, place after place.
use Rattle.std.proofs.Common.{List, ℕ}
use Rattle.vanilla_caller.specs.Group.{Group}
use Rattle.vanilla_caller.specs.Lists.{lists_of}
use Rattle.vanilla_caller.proofs.Champions.{Winning}
use Rattle.vanilla_caller.proofs.group.InOrder.largest_group.Given as goal

abbrev pub invariant-loop-k : goal.invariant-loop-k
invariant-loop-k l =
    (firsts : List (List ℕ)) × (champion : Group) × Winning (lists_of l.self.side.now) l.self.order.now firsts champion l.grouped l.best l.k
