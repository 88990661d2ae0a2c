-- A line that sets something puts what it sets in place of what was handed before it.
use Rattle.std.proofs.Common.{sym, ◌∙◌}
use Rattle.ledger_lines.proofs.ledgers.read_ledgers.Goals as goal

pub loop-setting-preserved : goal.loop-setting-preserved
loop-setting-preserved c =
    let next = rw c.in-Some.is at c.in_ok-setting.ensures in
    (next.within.2, c.loop-setting.invariant.1 ∙ next.said c.loop-setting.handed ∙ rw (sym c.set.ensures))

pub returns : goal.returns
returns c =
    let next = rw c.in_default.is at c.in_ok-setting.ensures in
    record { same = sym (c.loop-setting.invariant.1 ∙ next.said c.loop-setting.handed); within = next.within }
