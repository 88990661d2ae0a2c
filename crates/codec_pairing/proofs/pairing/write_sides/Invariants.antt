-- The pairs whose earlier record is below i have entered, and with those still to come they are the sides.
use Rattle.std.proofs.Common.{◌≡◌, ◌-◌, ℕ, List, ◌++◌, map, length}
use Rattle.lists.specs.Numbers.{numbers_from}
use Rattle.codec_pairing.specs.Pairing.{earlier_records, r1_of, r2_of}
use Rattle.codec_pairing.specs.Family.{opens_pair}
use Rattle.codec_pairing.proofs.pairing.write_sides.Given as goal

abbrev pub invariant-loop-i : goal.invariant-loop-i
invariant-loop-i l =
    let f = l.family in
    (done : List ℕ)
    × (done ++ numbers_from (opens_pair f) l.i (length f.flags.now - l.i) ≡ earlier_records f.flags.now f.names.now f.verdicts.now)
    × (l.sides.r1 ≡ map (r1_of f.flags.now f.names.now) done)
    × (l.sides.r2 ≡ map (r2_of f.flags.now f.names.now) done)
