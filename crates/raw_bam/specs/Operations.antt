-- CIGAR operations: SAM specification, section 1.4, the table of CIGAR.
use Rattle.std.specs.Prelude.{Bool, true, false, cond, List, [], ◌∷◌, ℕ, eqb}

-- a row of the table: the BAM code, and whether the operation consumes the query (the read) and the reference
pub record Operation : Type 0 where
  pub code : ℕ
  pub query : Bool
  pub reference : Bool

abbrev row : ℕ → Bool → Bool → Operation
row code query reference = record { code = code; query = query; reference = reference }

-- the nine operations, in the specification's order: M I D N S H P = X
abbrev pub operations : List Operation
operations =
    row 0 true true
    ∷ row 1 true false
    ∷ row 2 false true
    ∷ row 3 false true
    ∷ row 4 true false
    ∷ row 5 false false
    ∷ row 6 false false
    ∷ row 7 true true
    ∷ row 8 true true
    ∷ []

-- what the row of a code says; a code that has no row consumes nothing
abbrev pub said : (Operation → Bool) → ℕ → List Operation → Bool
said column code [] = false
said column code (op ∷ ops) = cond (eqb code op.code) (column op) (said column code ops)

unfoldable pub consumes_read : ℕ → Bool
consumes_read code = said (λ op. op.query) code operations

unfoldable pub consumes_reference : ℕ → Bool
consumes_reference code = said (λ op. op.reference) code operations
