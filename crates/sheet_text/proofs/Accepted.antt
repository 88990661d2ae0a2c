-- Where nothing is refused every sample is within the limits, and the buffer has room.
use mathlib.Core.Bool.{Bool, true, false}
use mathlib.Core.List.{List}
use mathlib.Core.Path.{◌≡◌, refl, sym, ◌∙◌, ap}
use Prim.Native.Nat.{ℕ, ◌≤◌, ◌<◌}
use native.Mathlib.Omega.{arith}
use borrow.Author.Tests.{ltb-false, not-true, not-false}
use Rattle.std.specs.List.{list_all}
use Rattle.lists.proofs.Every.{list_all_at}
use Rattle.std.specs.Prelude.{cond, Result, Ok, Err}
use Rattle.sheet_text.specs.declared.refusal.SheetRefusal.{SheetRefusal}
use Rattle.sheet_text.specs.declared.refusal.SheetRefusal.TheVariants.{LedgerTooLarge, BufferTooSmall}
use Rattle.codec_stats.specs.Ledger.{fresh, too_large}
use Rattle.sample_ledgers.specs.Samples.{ledger_at, samples_of}
use Rattle.sample_ledgers.proofs.Flat.{sample_read_lem, length-samples}
use Rattle.sheet_text.specs.Sheet.{within_limits, some_too_large, small_buffer, sheet_refusal}

pub sample_within : (samples : List ℕ) (s : ℕ) → some_too_large samples ≡ false → s < 96 → too_large (ledger_at samples s) ≡ false
unfolding some_too_large
sample_within samples s none below =
    let each = list_all_at within_limits (samples_of samples) fresh (not-false (list_all within_limits (samples_of samples)) none) s (omega (arith, length-samples samples)) in
    not-true (too_large (ledger_at samples s)) (ap within_limits (sym (sample_read_lem samples s below)) ∙ each)

pub accepted : (samples : List ℕ) (room : ℕ) → sheet_refusal samples room ≡ Ok tt → (some_too_large samples ≡ false) × (16384 ≤ room)
unfolding sheet_refusal
accepted samples room e = by_tests (some_too_large samples) refl (small_buffer room) refl e
  where
    by_tests : (large : Bool) → some_too_large samples ≡ large → (small : Bool) → small_buffer room ≡ small → ◌≡◌ {A = Result Unit SheetRefusal} (cond large (Err LedgerTooLarge) (cond small (Err BufferTooSmall) (Ok tt))) (Ok tt) → (some_too_large samples ≡ false) × (16384 ≤ room)
    by_tests true p small q f = absurd cc
    by_tests false p true q f = absurd cc
    by_tests false p false q f = (p, ltb-false room 16384 q)
