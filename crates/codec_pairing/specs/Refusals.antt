-- Document 01, the table of refusals: 1 to 6, which are asked of a family before any step.
use Rattle.std.specs.Prelude.{Bool, false, cond, not, ◌&&◌, ◌||◌, List, map, Option, None, Some, Result, Ok, Err, slice_get, ◌≡◌, ℕ, ◌+◌, eqb, ltb, length, get_or}
use Rattle.std.specs.List.{list_all}
use Rattle.std.specs.Result.{result_and}
use Rattle.lists.specs.Numbers.{numbers_from}
use Rattle.raw_bam.specs.Cigar.{is_operation, part_of, read_length, reference_length}
use Rattle.caller.specs.Fates.{undecided_number}
use Rattle.caller.specs.declared.refusal.Refusal.{Refusal}
use Rattle.caller.specs.declared.refusal.Refusal.TheVariants.{MinimumTooLong, TooManyRecords, BadPart, BadOperation, BadLength, BadPlace}
use Rattle.codec_pairing.specs.declared.refusal.Read.{Read}

abbrev pub ops_of : List ℕ → Read → List ℕ
ops_of ops r = part_of ops r.start r.count

-- 3: 'operations outside the slice, or over 64'
unfoldable pub bad_part : ℕ → Read → Bool
bad_part words r = ltb words (r.start + r.count) || ltb 64 r.count

-- 4: 'code above 8 or length 0'
unfoldable pub bad_words : List ℕ → Bool
bad_words part = not (list_all is_operation part)

-- 5: 'clipped length above 1,024, or not its operations' read bases'
unfoldable pub bad_bases : ℕ → List ℕ → Bool
bad_bases clipped part = ltb 1024 clipped || not (eqb clipped (read_length part))

-- 6: 'position 0 or above 536,870,911, or reference bases above that'
unfoldable pub bad_place : ℕ → List ℕ → Bool
bad_place position part = eqb position 0 || ltb 536870911 position || ltb 536870911 (reference_length part)

-- the table's column 'Cause', of 3 to 6, for a record and all operation words
abbrev pub has_bad_part : List ℕ → Read → Bool
has_bad_part ops r = bad_part (length ops) r

abbrev pub has_bad_words : List ℕ → Read → Bool
has_bad_words ops r = bad_words (ops_of ops r)

abbrev pub has_bad_bases : List ℕ → Read → Bool
has_bad_bases ops r = bad_bases r.clipped_length (ops_of ops r)

abbrev pub has_bad_place : List ℕ → Read → Bool
has_bad_place ops r = bad_place r.position (ops_of ops r)

-- a family's records as columns, with all operation words and which records are *entered*
pub record Reads : Type 0 where
  pub clipped : List ℕ
  pub positions : List ℕ
  pub starts : List ℕ
  pub counts : List ℕ
  pub ops : List ℕ
  pub entered : List Bool

abbrev pub read_of : Reads → ℕ → Read
read_of f i =
    record {
      clipped_length = get_or f.clipped i 0;
      position = get_or f.positions i 0;
      start = get_or f.starts i 0;
      count = get_or f.counts i 0;
    }

-- only an entered record gives a refusal
unfoldable pub gives : (Read → Bool) → Reads → ℕ → Bool
gives bad f i = get_or f.entered i false && bad (read_of f i)

-- 'then lowest record'
unfoldable pub lowest_bad : (Read → Bool) → Reads → Option ℕ
lowest_bad bad f = slice_get (numbers_from (gives bad f) 0 (length f.clipped)) 0

-- a cause, with the record that has it
abbrev pub refused_at : (ℕ → Refusal) → Option ℕ → Result Unit Refusal
refused_at cause None = Ok tt
refused_at cause (Some i) = Err (cause i)

-- 'Lowest number first', over all records
unfoldable pub refusal_of_records : Reads → Result Unit Refusal
refusal_of_records f =
    result_and (refused_at BadPart (lowest_bad (has_bad_part f.ops) f))
    (result_and (refused_at BadOperation (lowest_bad (has_bad_words f.ops) f))
    (result_and (refused_at BadLength (lowest_bad (has_bad_bases f.ops) f))
    (refused_at BadPlace (lowest_bad (has_bad_place f.ops) f))))

-- 1: 'minimum duplex length above 2,147,483,647'; 2: 'over 512 records or 8,192 operation words'; then 3 to 6
unfoldable pub first_refusal : ℕ → ℕ → Reads → Result Unit Refusal
first_refusal minimum records f =
    cond (ltb 2147483647 minimum) (Err MinimumTooLong)
    (cond (ltb 512 records || ltb 8192 (length f.ops)) (Err TooManyRecords) (refusal_of_records f))

-- after steps 1 and 2 a record that has no fate is entered
abbrev pub is_undecided : ℕ → Bool
is_undecided fate = eqb fate undecided_number

abbrev pub reads : List ℕ → List ℕ → List ℕ → List ℕ → List ℕ → List ℕ → Reads
reads fates clipped positions starts counts ops =
    record {
      clipped = clipped;
      positions = positions;
      starts = starts;
      counts = counts;
      ops = ops;
      entered = map is_undecided fates;
    }

-- what a closure answers, as a test does
abbrev pub Tests : (Read → Bool → Type 0) → (Read → Bool) → Type 0
Tests post bad = (r : Read) (answer : Bool) → post r answer → answer ≡ bad r
