-- A strand that does not follow takes no line.
use Rattle.std.proofs.Common.{◌≡◌, rules, Err}
use Rattle.strand_lines.specs.Strands.{strand_if}
use Rattle.strand_lines.proofs.strands.next_strand.Goals as goal

pub returns-then-not-follows : goal.returns-then-not-follows
unfolding strand_if
returns-then-not-follows c = record { same = rw c.if-not-follows.true; within = c.requires }

pub returns-in_err-strand : goal.returns-in_err-strand
unfolding strand_if
returns-in_err-strand c =
    let is : c.from_residual.result ≡ Err c.in_err-strand.field-0.0 = search rules in
    rw is (record { same = rw (c.if-not-follows.false, ← c.in_err-strand.ensures.same); within = c.in_err-strand.ensures.within })

pub returns : goal.returns
unfolding strand_if
returns c = record { same = rw (c.if-not-follows.false, ← c.in_ok-strand.ensures.same); within = c.in_ok-strand.ensures.within }
