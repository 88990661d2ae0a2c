-- After k digits the quotient is disagreements × 10^k / bases and the rest is the remainder, below the bases and so below 2^41.
use mathlib.Core.Path.{◌≡◌, sym, ◌∙◌}
use Prim.Native.Nat.{◌+◌, ◌*◌, ◌/◌, ◌%◌, ◌^◌, ◌<◌}
use native.Mathlib.Nat.{mod-lt, pos_of_ne-zero}
use native.Mathlib.Omega.{arith}
use borrow.Author.Tests.{eq-eqb, ne_eqb}
use Rattle.codec_stats.specs.Ledger.{millionths}
use Rattle.codec_stats.proofs.Digits.{next_quotient, next_remainder, quotient_small}
use Rattle.codec_stats.proofs.Small.{small}
use Rattle.codec_stats.proofs.rates.millionths.Goals as goal
use Rattle.codec_stats.proofs.rates.millionths.Goals.{After-tenfold-product, Else-bases-eq0}

some : (c : Else-bases-eq0) → 0 < c.args.ledger.duplex_bases
some c = pos_of_ne-zero c.if-bases-eq0.false

-- after a turn: the quotient and the remainder with one digit more
further : (c : After-tenfold-product)
    → let ledger = c.args.ledger in
    let k = c.loop-digit._digit in
    (c.loop-digit.quotient * 10 + c.tenfold-product.result / ledger.duplex_bases ≡ ledger.disagreements * 10 ^ (k + 1) / ledger.duplex_bases)
    × (c.tenfold-product.result % ledger.duplex_bases ≡ ledger.disagreements * 10 ^ (k + 1) % ledger.duplex_bases)
further c =
    let ledger = c.args.ledger in
    let k = c.loop-digit._digit in
    let turn = c.loop-digit.invariant in (
      rw (c.tenfold-product.ensures.value, turn.quotient, turn.rest) (sym (next_quotient ledger.disagreements ledger.duplex_bases k (pos_of_ne-zero c.if-bases-eq0.false))),
      rw (c.tenfold-product.ensures.value, turn.rest) (sym (next_remainder ledger.disagreements ledger.duplex_bases k)),
    )

pub returns-then-bases-eq0 : goal.returns-then-bases-eq0
unfolding millionths
returns-then-bases-eq0 c = simp (eq-eqb _ _ c.if-bases-eq0.true)

pub tenfold-product-requires : goal.tenfold-product-requires
tenfold-product-requires c = omega (arith, c.loop-digit.invariant.rest, mod-lt (c.args.ledger.disagreements * 10 ^ c.loop-digit._digit) (some (goal.at.tenfold-product-requires c).Else-bases-eq0), (small c.args.ledger c.requires).duplex_bases)

pub with_digit-quotient-requires : goal.with_digit-quotient-requires
with_digit-quotient-requires c =
    let k = c.loop-digit._digit in
    rw (further (goal.at.with_digit-quotient-requires c).After-tenfold-product).0 (quotient_small c.args.ledger.disagreements c.args.ledger.duplex_bases (k + 1) (small c.args.ledger c.requires).disagreements (omega arith))

pub loop-digit-preserved : goal.loop-digit-preserved
loop-digit-preserved c =
    let turn = further (goal.at.loop-digit-preserved c).After-tenfold-product in
    record { quotient = c.with_digit-quotient.ensures ∙ turn.0; rest = turn.1 }

pub returns : goal.returns
unfolding millionths
returns c =
    let six : c.loop-digit._digit ≡ 6 = omega arith in
    let all = rw six at c.loop-digit.invariant.quotient in
    simp (ne_eqb _ _ c.if-bases-eq0.false) all
