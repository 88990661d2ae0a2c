-- What a list that is not refused meets, and that such an extended list is not refused.
use mathlib.Core.Bool.{Bool, true, false, not, ◌||◌}
use mathlib.Core.List.{List}
use mathlib.Core.Path.{◌≡◌, refl}
use Prim.Native.Nat.{ℕ, ◌≤◌}
use borrow.Author.Tests.{eqb-true, ltb-false, le-ltb, not-false}
use lib.Dec.{eqb, ltb}
use lib.ListN.{length}
use Rattle.std.specs.List.{list_all}
use Rattle.std.specs.Prelude.{Ok}
use Rattle.std.proofs.lemmas.Bool.{or_parts}
use Rattle.raw_bam.specs.Cigar.{is_operation, read_length, reference_length}
use Rattle.extended_cigar.specs.Refusals.{is_plain, bad_plain_words, bad_extended_words, past_plain_limits, past_extended_limits, small_output, lowest, refusal_there, refusal_back}

-- the three tests of a list that is not refused fail
unrefused : (words limits output : Bool) → lowest words limits output ≡ Ok tt
    → (words ≡ false) × (limits ≡ false) × (output ≡ false)
unrefused true limits output e = cc
unrefused false true output e = cc
unrefused false false true e = cc
unrefused false false false e = (refl, refl, refl)

-- the way there: limits as listed, bases as many as consumed
pub record AcceptedThere (words read reference : List ℕ) (room : ℕ) : Type 0 where
  pub operations : list_all is_plain words ≡ true
  pub few : length words ≤ 64
  pub short : read_length words ≤ 1024
  pub bases : length read ≡ read_length words
  pub reference_bases_lem : length reference ≡ reference_length words
  pub output : 2048 ≤ room

pub accepted_there : (words read reference : List ℕ) (room : ℕ) → refusal_there words read reference room ≡ Ok tt → AcceptedThere words read reference room
unfolding refusal_there bad_plain_words past_plain_limits
accepted_there words read reference room e =
    let tests = unrefused (not (list_all is_plain words)) (past_plain_limits words (length read) (length reference)) (small_output room) e in
    let last = or_parts (ltb 64 (length words) || ltb 1024 (read_length words) || not (eqb (length read) (read_length words))) (not (eqb (length reference) (reference_length words))) tests.1 in
    let third = or_parts (ltb 64 (length words) || ltb 1024 (read_length words)) (not (eqb (length read) (read_length words))) last.0 in
    let first = or_parts (ltb 64 (length words)) (ltb 1024 (read_length words)) third.0 in
    record {
      operations = not-false (list_all is_plain words) tests.0;
      few = ltb-false 64 (length words) first.0;
      short = ltb-false 1024 (read_length words) first.1;
      bases = eqb-true (length read) (read_length words) (not-false (eqb (length read) (read_length words)) third.1);
      reference_bases_lem = eqb-true (length reference) (reference_length words) (not-false (eqb (length reference) (reference_length words)) last.1);
      output = ltb-false room 2048 tests.2;
    }

-- the way back
pub record AcceptedBack (words : List ℕ) (room : ℕ) : Type 0 where
  pub operations : list_all is_operation words ≡ true
  pub few : length words ≤ 1088
  pub short : read_length words ≤ 1024
  pub output : 2048 ≤ room

pub accepted_back : (words : List ℕ) (room : ℕ) → refusal_back words room ≡ Ok tt → AcceptedBack words room
unfolding refusal_back bad_extended_words past_extended_limits
accepted_back words room e =
    let tests = unrefused (not (list_all is_operation words)) (past_extended_limits words) (small_output room) e in
    let limits = or_parts (ltb 1088 (length words)) (ltb 1024 (read_length words)) tests.1 in
    record {
      operations = not-false (list_all is_operation words) tests.0;
      few = ltb-false 1088 (length words) limits.0;
      short = ltb-false 1024 (read_length words) limits.1;
      output = ltb-false room 2048 tests.2;
    }

pub back_accepts : (words : List ℕ) (room : ℕ) → AcceptedBack words room → refusal_back words room ≡ Ok tt
unfolding refusal_back bad_extended_words past_extended_limits
back_accepts words room a = rw (a.operations, le-ltb 1088 (length words) a.few, le-ltb 1024 (read_length words) a.short, le-ltb room 2048 a.output)
