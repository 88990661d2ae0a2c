-- A fate for the records from place k on that do not stay gives what a fate for all of them gives.
use Rattle.std.proofs.Common.{◌≡◌, length, map, drop}
use Rattle.std.specs.Prelude.{not}
use Rattle.codec_records.specs.Side.{kept}
use Rattle.codec_sides.specs.Side.{dropped, given_fate}
use Rattle.codec_sides.proofs.staying.give_fate_to_dropped.Given as goal

abbrev pub invariant-loop-k : goal.invariant-loop-k
invariant-loop-k l =
    (given_fate l.fate (kept (drop l.k l.side) (drop l.k (map not l.stays))) l.fates ≡ given_fate l.fate (dropped l.side l.stays) l.initial.fates)
    × (length l.fates ≡ length l.initial.fates)
