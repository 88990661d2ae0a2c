-- The records of a side in an order: the list of the one at a place, and the group that it founds.
use Rattle.std.specs.Prelude.{List, ℕ, slice_index}
use Rattle.vanilla_caller.specs.Founding.{group_at}
use Rattle.vanilla_caller.specs.Group.{Group}
use Rattle.vanilla_caller.specs.Lists.{lists_of}
use Rattle.vanilla_caller.specs.declared.group.InOrder.{InOrder}

abbrev pub list_at : InOrder → ℕ → List ℕ
list_at records k = lists_of records.side.now (slice_index records.order.now k)

abbrev pub group_of : InOrder → ℕ → Group
group_of records k = group_at (lists_of records.side.now) records.order.now k
