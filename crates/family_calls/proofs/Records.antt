-- The records of a family that is read, as columns.
use mathlib.Core.Bool.{Bool, true, false, cond}
use mathlib.Core.List.{List}
use mathlib.Core.Path.{◌≡◌, refl}
use Prim.Native.Nat.{ℕ, ◌≤◌}
use native.Mathlib.Omega.{arith}
use borrow.Author.Tests.{ltb-true, ltb-false}
use lib.Dec.{ltb}
use lib.ListN.{length, take, replicate, length-replicate}
use Rattle.std.proofs.lemmas.List.{take_all}
use Rattle.codec_records.specs.Records.{blank, Holds}
use Rattle.codec_records.specs.declared.columns.Columns.{Columns}
use Rattle.codec_records.specs.declared.records.Record.{Record}
use Rattle.family_calls.specs.Ledgers.{records_of}

-- the records, which the columns made of them hold
pub gathered : (columns : Columns) (records : List Record) (len : ℕ) → (len ≤ 512 → length records ≡ len) → (len ≤ 512 → Holds columns len (take len records))
    → (length (records_of records len) ≡ len) × (len ≤ 512 → Holds columns len (records_of records len))
gathered columns records len counted holds = go (ltb 512 len) refl
  where
    go : (many : Bool) → ltb 512 len ≡ many
        → (length (cond many (replicate len blank) records) ≡ len) × (len ≤ 512 → Holds columns len (cond many (replicate len blank) records))
    go true e = (length-replicate len blank, λ few. absurd (omega (arith, ltb-true 512 len e)))
    go false e =
        let few : len ≤ 512 = omega (arith, ltb-false 512 len e) in
        (counted few, λ h. rw (take_all len records (omega (arith, counted few))) at (holds h))
