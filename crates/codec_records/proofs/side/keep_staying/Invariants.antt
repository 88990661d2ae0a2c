-- The records before place k that stay are at the front, and with those still to come they are all that stay.
use Rattle.std.proofs.Common.{◌≡◌, ◌≤◌, ℕ, List, ◌++◌, length, drop}
use Rattle.lists.specs.Written.{written}
use Rattle.codec_records.specs.Side.{kept}
use Rattle.codec_records.proofs.side.keep_staying.Given as goal

abbrev pub invariant-loop-k : goal.invariant-loop-k
invariant-loop-k l =
    (done : List ℕ)
    × (done ++ kept (drop l.k l.initial.side) (drop l.k l.stays) ≡ kept l.initial.side l.stays)
    × (l.count ≡ length done)
    × (l.count ≤ l.k)
    × (l.side ≡ written done l.initial.side)
