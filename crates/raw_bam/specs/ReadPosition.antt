-- Document 01, 'CIGAR operations', Read position of a reference position: from 1, counting I and S bases too; request 07's last base.
use Rattle.std.specs.Prelude.{Bool, false, cond, ◌&&◌, ◌||◌, List, [], ◌∷◌, ◌++◌, ℕ, ◌+◌, ◌-◌, ltb, Option, Some, None}
use Rattle.raw_bam.specs.Cigar.{op_length, op_code, read_length, reference_bases}
use Rattle.raw_bam.specs.Operations.{consumes_read, consumes_reference}

-- M, = or X
abbrev pub is_aligned : ℕ → Bool
is_aligned word = consumes_read (op_code word) && consumes_reference (op_code word)

-- M, = or X of some length
abbrev pub has_aligned_base : ℕ → Bool
has_aligned_base word = is_aligned word && ltb 0 (op_length word)

-- an M, = or X of some length is among the operations
unfoldable pub has_aligned : List ℕ → Bool
has_aligned [] = false
has_aligned (word ∷ words) = has_aligned_base word || has_aligned words

-- at the base k, from 0, of an operation, with the read bases before it and whether M, = or X came before it. Inside M, = or X, that
-- base. Inside D or N, where the last base is asked for, request 07's 'last read base consumed before it, inserted or soft-clipped
-- bases included, or none if no M, = or X came before'
abbrev pub inside : Bool → ℕ → Bool → ℕ → ℕ → Option ℕ
inside ask_last read aligned word k = cond (is_aligned word) (Some (read + k + 1)) (cond (ask_last && aligned) (Some read) None)

-- at the reference base k, from 0, of the operations that are left, with those before them
unfoldable pub read_position_at : Bool → List ℕ → List ℕ → ℕ → Option ℕ
read_position_at ask_last before [] k = None
read_position_at ask_last before (word ∷ words) k =
    cond (ltb k (reference_bases word)) (inside ask_last (read_length before) (has_aligned before) word k)
    (read_position_at ask_last (before ++ (word ∷ [])) words (k - reference_bases word))

-- of a record that starts at a reference position
unfoldable pub read_position : Bool → List ℕ → ℕ → ℕ → Option ℕ
read_position ask_last ops start position = cond (ltb position start) None (read_position_at ask_last [] ops (position - start))
