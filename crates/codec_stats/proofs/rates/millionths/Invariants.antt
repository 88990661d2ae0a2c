use mathlib.Core.Path.{◌≡◌}
use Prim.Native.Nat.{◌*◌, ◌/◌, ◌%◌, ◌^◌}
use Rattle.codec_stats.proofs.rates.millionths.Given as goal

abbrev pub invariant-loop-digit : goal.invariant-loop-digit
invariant-loop-digit l =
    record {
      quotient : l.quotient ≡ l.disagreements * 10 ^ l._digit / l.bases;
      rest : l.rest ≡ l.disagreements * 10 ^ l._digit % l.bases;
    }
