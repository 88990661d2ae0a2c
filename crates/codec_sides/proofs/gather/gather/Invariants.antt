-- What is read of the records before place k is written.
use Rattle.std.proofs.Common.{◌≡◌, ℕ, map, take}
use Rattle.lists.specs.Written.{written}
use Rattle.codec_sides.proofs.gather.gather.Given as goal

abbrev pub invariant-loop-k : goal.invariant-loop-k
invariant-loop-k g l =
    (value : ℕ → g.row.T.Denot) → ((r : ℕ) (x : g.row.T.Denot) → goal.F-post g l.read r x → x ≡ value r) → l.out ≡ written (map value (take l.k l.side)) l.initial.out
