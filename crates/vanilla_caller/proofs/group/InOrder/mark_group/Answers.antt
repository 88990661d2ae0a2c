use Rattle.std.proofs.Common.{true, false, ℕ, ◌<◌, ◌-◌, All, take, drop, ◌≡◌, ◌∙◌, length, length-take-le, slice_index, replicate}
use Rattle.std.proofs.lemmas.List.Elements.{All-take, All-drop, All-weaker}
use Rattle.raw_bam.specs.Prefix.{is_prefix}
use Rattle.vanilla_caller.specs.Lists.{lists_of}
use Rattle.lists.specs.Member.{is_in}
use Rattle.vanilla_caller.proofs.Marks.{written_fill, says_members_met, says_members_failed}
use Rattle.vanilla_caller.proofs.group.InOrder.mark_group.Goals as goal
use Rattle.vanilla_caller.proofs.group.InOrder.mark_group.Goals.{then-is_prefix, else-is_prefix}

pub loop-i-init : goal.loop-i-init
unfolding is_in
loop-i-init c =
    let n = length c.args.self.now.order.now in
    let filled : c.fill.new.self ≡ replicate n false = c.fill.ensures.after (λ y e. e) ∙ rw (length-take-le n c.args.stays.now c.requires.all_marked) in
    rw (filled, written_fill false n c.args.stays.now)

pub loop-i-preserved : goal.loop-i-preserved
loop-i-preserved c =
    let self = c.args.self.now in
    let order = self.order.now in
    let n = length order in
    let lists = lists_of self.side.now in
    let own = lists (slice_index order c.args.place) in
    let test = λ (i : ℕ). is_prefix (lists i) own in
    let founded = take (n - c.args.place) (drop c.args.place order) in
    let i = slice_index founded c.loop-i.i-index in
    let whole : All (λ i. i < n) order = All-weaker (λ i. i < length self.side.now.clipped.now) (λ i. i < n) (λ i h. rw self.orders.long h) order self.orders.within in
    let within : All (λ i. i < n) founded = All-take (λ i. i < n) (n - c.args.place) _ (All-drop (λ i. i < n) c.args.place order whole) in
    elim c.if-is_prefix.branch [
      | then-is_prefix w ↦ (
          let met : test i ≡ true = cc in
          w.stays-is ∙ says_members_met test n c.args.stays.now founded c.loop-i.i-index c.loop-i-test.true within c.loop-i.stays c.loop-i.invariant c.requires.all_marked met)
      | else-is_prefix w ↦ (
          let failed : test i ≡ false = cc in
          w.stays-is ∙ says_members_failed test n c.args.stays.now founded c.loop-i.i-index c.loop-i-test.true within c.loop-i.stays c.loop-i.invariant failed)
    ]
