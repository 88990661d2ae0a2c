-- One test over the nine rows, computed, and what it says of the row that is read.
use mathlib.Core.Bool.{Bool, true, false, cond}
use mathlib.Core.List.{List, [], ◌∷◌, map}
use mathlib.Core.Path.{◌≡◌, refl}
use Prim.Native.Nat.{ℕ, suc, ◌≤◌}
use native.Mathlib.Omega.{arith}
use borrow.Author.Rules.{rules}
use borrow.Author.Tests.{ne_eqb}
use lib.Dec.{T, ltb, ltb→lt}
use lib.ListN.{get_or}
use Rattle.lists.proofs.Table.{T_left, T_right, every_place, every_place_at}
use Rattle.raw_bam.specs.Cigar.{op_code}
use Rattle.raw_bam.specs.Operations.{Operation, said, operations, consumes_read, consumes_reference}
use Rattle.raw_bam.specs.declared.operation.Consumption.{Consumption}
use Rattle.raw_bam.proofs.operation.consumes.Goals as goal

-- the code's table has the specification's columns
table : List Consumption
table = map (λ (op : Operation). record { read = op.query; reference = op.reference }) operations

alike : Bool → Bool → Bool
alike true b = b
alike false b = cond b false true

alike-eq : (a b : Bool) → T (alike a b) → a ≡ b
unfolding alike
alike-eq true true t = refl
alike-eq true false t = absurd t
alike-eq false true t = absurd t
alike-eq false false t = refl

right : ℕ → Consumption → Bool
right code row = cond (alike row.read (consumes_read code)) (alike row.reference (consumes_reference code)) false

right-row : (code : ℕ) (row : Consumption) → T (right code row) → (row.read ≡ consumes_read code) × (row.reference ≡ consumes_reference code)
unfolding right
right-row code row t = (alike-eq row.read (consumes_read code) (T_left (alike row.read (consumes_read code)) (alike row.reference (consumes_reference code)) t), alike-eq row.reference (consumes_reference code) (T_right (alike row.read (consumes_read code)) (alike row.reference (consumes_reference code)) t))

-- a code above all the table's codes has no row
said-none : (column : Operation → Bool) (code limit i : ℕ) (ops : List Operation) → limit ≤ code → T (every_place (λ (_ : ℕ) op. ltb op.code limit) i ops) → false ≡ said column code ops
said-none column code limit i [] h t = refl
said-none column code limit i (op ∷ ops) h t =
    let rest = every_place (λ (_ : ℕ) (op : Operation). ltb op.code limit) (suc i) ops in
    let below = ltb→lt op.code limit (T_left (ltb op.code limit) rest t) in
    rw (ne_eqb code op.code (omega arith)) (said-none column code limit (suc i) ops h (T_right (ltb op.code limit) rest t))

pub returns-then-code-lt9 : goal.returns-then-code-lt9
unfolding table right alike consumes_read consumes_reference
returns-then-code-lt9 c =
    let row = right-row (op_code c.args.word) (get_or table (op_code c.args.word) (record { read = false; reference = false })) (every_place_at right table (record { read = false; reference = false }) tt (op_code c.args.word) (search rules)) in
    record { read = row.0; reference = row.1 }

pub returns-else-code-lt9 : goal.returns-else-code-lt9
unfolding consumes_read consumes_reference
returns-else-code-lt9 c =
    record {
      read = said-none (λ op. op.query) (op_code c.args.word) 9 0 operations c.if-code-lt9.false tt;
      reference = said-none (λ op. op.reference) (op_code c.args.word) 9 0 operations c.if-code-lt9.false tt;
    }
