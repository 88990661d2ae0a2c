-- Document 02, Req 08, 'Errors': 24, 25 and 26 of both ways, lowest number first.
use Rattle.std.specs.Prelude.{Bool, cond, not, ◌&&◌, ◌||◌, List, ℕ, eqb, ltb, length, Result, Ok, Err}
use Rattle.std.specs.List.{list_all}
use Rattle.raw_bam.specs.Cigar.{is_operation, read_length, reference_length}
use Rattle.extended_cigar.specs.Extended.{is_extended}
use Rattle.extended_cigar.specs.declared.refusal.CigarRefusal.{CigarRefusal}
use Rattle.extended_cigar.specs.declared.refusal.CigarRefusal.TheVariants.{BadOperation, PastLimits, SmallOutput}

abbrev pub number_of : CigarRefusal → ℕ
number_of BadOperation = 24
number_of PastLimits = 25
number_of SmallOutput = 26

-- an operation that refusal 4 would not catch, and that is neither = nor X
abbrev pub is_plain : ℕ → Bool
is_plain word = is_operation word && not (is_extended word)

-- 24: 'a plain list holding = or X, or either list an operation that refusal 4 would catch'
unfoldable pub bad_plain_words : List ℕ → Bool
bad_plain_words words = not (list_all is_plain words)

unfoldable pub bad_extended_words : List ℕ → Bool
bad_extended_words words = not (list_all is_operation words)

-- 25: 'at most 64 on the plain side' and '1,024 read bases', 'or bases not as many as the list consumes'
unfoldable pub past_plain_limits : List ℕ → ℕ → ℕ → Bool
past_plain_limits words bases reference_bases =
    ltb 64 (length words) || ltb 1024 (read_length words) || not (eqb bases (read_length words)) || not (eqb reference_bases (reference_length words))

-- 25: '1,088 on the extended side' and '1,024 read bases'
unfoldable pub past_extended_limits : List ℕ → Bool
past_extended_limits words = ltb 1088 (length words) || ltb 1024 (read_length words)

-- 26: 'output under 2,048 words'
abbrev pub small_output : ℕ → Bool
small_output room = ltb room 2048

-- lowest number first
abbrev pub lowest : (bad_operation past_limits small_output : Bool) → Result Unit CigarRefusal
lowest bad_operation past_limits small_output = cond bad_operation (Err BadOperation) (cond past_limits (Err PastLimits) (cond small_output (Err SmallOutput) (Ok tt)))

-- the way there: a plain list, its read bases and reference bases, and an output of so many words
unfoldable pub refusal_there : List ℕ → List ℕ → List ℕ → ℕ → Result Unit CigarRefusal
refusal_there words read reference room = lowest (bad_plain_words words) (past_plain_limits words (length read) (length reference)) (small_output room)

-- the way back: an extended list, and an output of so many words
unfoldable pub refusal_back : List ℕ → ℕ → Result Unit CigarRefusal
refusal_back words room = lowest (bad_extended_words words) (past_extended_limits words) (small_output room)

-- a word of 32 bits
abbrev pub is_word : ℕ → Bool
is_word word = ltb word 4294967296
