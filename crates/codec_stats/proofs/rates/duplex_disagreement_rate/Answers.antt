-- Refusal 10 leaves at most 2^41 of either count, which a 64-bit float holds.
use Prim.Native.Nat.{ℕ, ◌≤◌}
use native.Mathlib.Omega.{arith}
use borrow.Author.Tests.{eq-eqb, ne_eqb, le-leb}
use lib.Dec.{T}
use lib.Ieee.{binary64, in_float}
use lib.IntN.{pos}
use Rattle.codec_stats.specs.Ledger.{rate}
use Rattle.codec_stats.proofs.Small.{small}
use Rattle.codec_stats.proofs.rates.duplex_disagreement_rate.Goals as goal

held : (n : ℕ) → n ≤ 2199023255552 → T (in_float binary64 (pos n))
unfolding in_float
held n h = rw (le-leb n 9007199254740992 (omega arith)) tt

pub returns-then-ledger-eq0 : goal.returns-then-ledger-eq0
unfolding rate
returns-then-ledger-eq0 c = simp (eq-eqb _ _ c.if-ledger-eq0.true)

pub int_to_float-result : goal.int_to_float-result
int_to_float-result c = held c.args.ledger.disagreements (small c.args.ledger c.requires).disagreements

pub int_to_float-result-2 : goal.int_to_float-result-2
int_to_float-result-2 c = held c.args.ledger.duplex_bases (small c.args.ledger c.requires).duplex_bases

pub returns : goal.returns
unfolding rate
returns c = simp (ne_eqb _ _ c.if-ledger-eq0.false)
