-- The length that is answered counts bytes at the front of the buffer, so that a caller may lend them on.
use mathlib.Core.List.{List}
use mathlib.Core.Path.{◌≡◌, sym}
use Prim.Native.Nat.{ℕ, ◌≤◌}
use native.Mathlib.Omega.{arith}
use lib.ListN.{length, drop, length-append}
use lib.Seq.{length-take-le}
use Rattle.std.specs.Prelude.{Result, Ok, Err}
use Rattle.table_text.specs.OutputTable.{Front}
use Rattle.sheet_text.specs.Sheet.{answer_at, buffer_at, sheet_refusal, sheet_answer, sheet_buffer}
use Rattle.sheet_text.specs.SheetText.{sheet_text}
use Rattle.sheet_text.specs.declared.refusal.SheetRefusal.{SheetRefusal}

pub sheet_front : (samples old : List ℕ) (n : ℕ) → sheet_answer samples old ≡ Ok n → Front n (sheet_buffer samples old)
unfolding sheet_answer sheet_buffer
sheet_front samples old n e = by_refusal (sheet_refusal samples (length old)) (sheet_text samples) e
  where
    by_refusal : (refusal : Result Unit SheetRefusal) (text : List ℕ) → answer_at refusal text ≡ Ok n → Front n (buffer_at refusal text old)
    by_refusal (Ok accepted) text f =
        let size : length text ≡ n = cc in
        let room : n ≤ length (buffer_at (Ok accepted) text old) = omega (arith, length-append text (drop (length text) old)) in
        (room, sym (length-take-le n _ room))
    by_refusal (Err other) text f = absurd cc
