-- Document 01, 'CIGAR operations': a word is length × 16 + code, as in BAM.
use Rattle.std.specs.Prelude.{Bool, cond, ◌&&◌, List, ℕ, ◌/◌, ◌%◌, leb, ltb, take, drop}
use Rattle.lists.specs.Total.{total}
use Rattle.raw_bam.specs.Operations.{consumes_read, consumes_reference}

abbrev pub op_length : ℕ → ℕ
op_length word = word / 16

abbrev pub op_code : ℕ → ℕ
op_code word = word % 16

-- refusal 4 is of any other word: a code of 0 to 8, and a length that is not 0
abbrev pub is_operation : ℕ → Bool
is_operation word = leb (op_code word) 8 && ltb 0 (op_length word)

-- 'each record's operations are a part of that slice starting anywhere'
abbrev pub part_of : List ℕ → (start count : ℕ) → List ℕ
part_of ops start count = take count (drop start ops)

-- the read bases and the reference bases that an operation consumes
unfoldable pub read_bases : ℕ → ℕ
read_bases word = cond (consumes_read (op_code word)) (op_length word) 0

unfoldable pub reference_bases : ℕ → ℕ
reference_bases word = cond (consumes_reference (op_code word)) (op_length word) 0

-- those of a list of operations
abbrev pub read_length : List ℕ → ℕ
read_length ops = total read_bases ops

abbrev pub reference_length : List ℕ → ℕ
reference_length ops = total reference_bases ops
