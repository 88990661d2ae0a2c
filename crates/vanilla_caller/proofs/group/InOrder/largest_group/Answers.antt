use Rattle.std.proofs.Common.{Bool, false, List, [], ◌∷◌, ◌++◌, ◌∙◌, ap, slice_index, slice_index_or, if◌then◌else◌, arith}
use Rattle.vanilla_caller.specs.Founding.{group_at}
use Rattle.vanilla_caller.specs.Group.{larger, no_group}
use Rattle.vanilla_caller.specs.Lists.{lists_of}
use Rattle.vanilla_caller.proofs.Champions.{none_yet, passes, founds, winning_end}
use Rattle.vanilla_caller.proofs.group.InOrder.largest_group.Goals as goal
use Rattle.vanilla_caller.proofs.group.InOrder.largest_group.Goals.{then-not-grouped-k, else-not-grouped-k}

pub loop-k-init : goal.loop-k-init
loop-k-init c =
    let self = c.args.self.now in
    ([], no_group, none_yet (lists_of self.side.now) self.order.now c.requires.nonzero c.requires.len_bound)

pub loop-k-preserved : goal.loop-k-preserved
loop-k-preserved c =
    let lists = lists_of c.args.self.now.side.now in
    let order = c.args.self.now.order.now in
    let k = c.loop-k.k in
    let grouped = c.loop-k.grouped in
    let best = c.loop-k.best in
    let firsts = c.loop-k.invariant.0 in
    let champion = c.loop-k.invariant.1 in
    let won = c.loop-k.invariant.2 in
    elim c.if-not-grouped-k.branch [
      | then-not-grouped-k w ↦ (
          let found = w.found_group-size in
          let own = lists (slice_index order k) in
          let wins = larger found.result own best.size (lists (slice_index order best.place)) in
          let more = founds lists order firsts champion grouped best k c.loop-k-test.true won c.if-not-grouped-k.grouped found.result w.if-not-grouped-k.true found.ensures.size
          (λ j low high. ap (λ (l : List Bool). slice_index_or l j false) w.grouped-is ∙ found.ensures.by_index j low high) in
          (firsts ++ (own ∷ []), (if wins then group_at lists order k else champion), rw (w.best-is ∙ w.better-best.ensures) more))
      | else-not-grouped-k w ↦ (firsts, champion, rw (w.grouped-is, w.best-is) (passes lists order firsts champion grouped best k c.loop-k-test.true won w.if-not-grouped-k.false))
    ]

pub returns-clause-wins : goal.returns-clause-wins
returns-clause-wins c =
    let self = c.args.self.now in
    let won = c.loop-k.invariant.2 in
    winning_end (lists_of self.side.now) self.order.now c.loop-k.invariant.0 c.loop-k.invariant.1 c.loop-k.grouped c.loop-k.best c.loop-k.k (omega (arith, c.requires.nonzero)) (omega arith) won
