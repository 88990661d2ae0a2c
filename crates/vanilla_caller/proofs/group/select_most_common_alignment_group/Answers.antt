-- The order, the founder of the winning group, and the records of its group.
use Rattle.std.proofs.Common.{true, ◌≡◌, ◌∙◌, ap, List, ℕ, ◌<◌, length, length-take-le, take, replicate}
use Rattle.std.proofs.lemmas.List.Elements.{All-same}
use borrow.Author.Tests.{lt-ltb, le-ltb}
use Rattle.lists.specs.Tabulate.{tabulate}
use Rattle.lists.specs.Member.{is_in}
use Rattle.lists.specs.Written.{written}
use Rattle.vanilla_caller.specs.Group.{Group, most_common, staying}
use Rattle.vanilla_caller.specs.Lists.{lists_of}
use Rattle.vanilla_caller.specs.Order.{by_length}
use Rattle.vanilla_caller.proofs.Groups.{groups_founded}
use Rattle.vanilla_caller.proofs.Marks.{written_fill}
use Rattle.vanilla_caller.proofs.Orders.{length-by_length, by_length-within, take-by_length}
use Rattle.vanilla_caller.proofs.group.select_most_common_alignment_group.Goals as goal

pub returns-then-n-lt2 : goal.returns-then-n-lt2
unfolding staying
returns-then-n-lt2 c =
    let n = length c.args.side.now.clipped.now in
    let filled : c.fill.new.self ≡ replicate n true = c.fill.ensures.after (λ y e. e) ∙ rw (length-take-le n c.args.stays.now c.requires.all_marked) in
    rw (lt-ltb n 2 c.if-n-lt2.true, filled) (written_fill true n c.args.stays.now)

pub invariant_of-records : goal.invariant_of-records
invariant_of-records c =
    let lengths = c.args.side.now.clipped.now in
    let n = length lengths in
    let sorted = take-by_length lengths _ n c.sort_by_length.ensures in
    record { orders = record { long = rw sorted (length-by_length lengths n); within = All-same (λ i. i < n) _ _ sorted (by_length-within lengths n) } }

pub returns : goal.returns
unfolding staying most_common
returns c =
    let side = c.args.side.now in
    let lengths = side.clipped.now in
    let n = length lengths in
    let lists = lists_of side in
    let sorted : take n c.sort_by_length.new.order ≡ by_length lengths n = take-by_length lengths _ n c.sort_by_length.ensures in
    let won = ap (λ (g : Group). g.members) (rw sorted at c.largest_group.ensures.wins) in
    let marked = rw (sorted, length-by_length lengths n) at c.mark_group.ensures in
    rw (le-ltb n 2 c.if-n-lt2.false, groups_founded lists (by_length lengths n))
    (marked ∙ ap (λ (js : List ℕ). written (tabulate (λ i. is_in i js) n) c.args.stays.now) won)
