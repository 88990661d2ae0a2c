-- Document 02, Req 08: what is promised of both ways together.
use mathlib.Core.Bool.{true, not}
use mathlib.Core.List.{List}
use mathlib.Core.Path.{◌≡◌, ap}
use Prim.Native.Nat.{ℕ, ◌≤◌}
use native.Mathlib.Omega.{arith}
use lib.ListN.{length, take}
use Rattle.std.specs.List.{list_all}
use Rattle.std.specs.Prelude.{Ok}
use Rattle.lists.specs.Written.{written}
use Rattle.lists.proofs.Written.{take_count}
use Rattle.raw_bam.specs.Cigar.{read_length, reference_length}
use Rattle.extended_cigar.specs.declared.convert.CigarAnswer.{CigarAnswer}
use Rattle.extended_cigar.specs.Converted.{Converted}
use Rattle.extended_cigar.specs.Extended.{is_m, extended}
use Rattle.extended_cigar.specs.Plain.{joined_m, plain}
use Rattle.extended_cigar.specs.Refusals.{is_plain, is_word, refusal_there, refusal_back}
use Rattle.extended_cigar.proofs.Accepted.{accepted_there, accepted_back, back_accepts}
use Rattle.extended_cigar.proofs.Converting.{unrefused, words-given}
use Rattle.extended_cigar.proofs.WayBack.{at_most_back, read_back, reference_back, plain_back, below_back}
use Rattle.extended_cigar.proofs.RoundTrip.{there_and_back}
use Rattle.extended_cigar.proofs.WayThere.{operations_there, no_M_there, read_there, reference_there, at_most_there, below_there}

-- what the way there gives: at most 1,087 words, so within 1,088 and the output; the bases that the list given consumes; no M
pub record Given (words read reference : List ℕ) : Type 0 where
  pub at_most : length (extended words read reference) ≤ 1087
  pub same_read : read_length (extended words read reference) ≡ read_length words
  pub same_reference : reference_length (extended words read reference) ≡ reference_length words
  pub no_M : list_all (λ word. not (is_m word)) (extended words read reference) ≡ true
  pub below : list_all is_word words ≡ true → list_all is_word (extended words read reference) ≡ true

-- what the way back gives
pub record GivenBack (words : List ℕ) : Type 0 where
  pub at_most : length (plain words) ≤ length words
  pub same_read : read_length (plain words) ≡ read_length words
  pub same_reference : reference_length (plain words) ≡ reference_length words
  pub all_plain : list_all is_plain (plain words) ≡ true
  pub below : list_all is_word words ≡ true → list_all is_word (plain words) ≡ true

-- 'There and back gives the plain list with neighbouring M's joined, proved for all lists accepted'
pub record ThereAndBack (words read reference : List ℕ) : Type 0 where
  pub accepted : (room : ℕ) → 2048 ≤ room → refusal_back (extended words read reference) room ≡ Ok tt
  pub back : plain (extended words read reference) ≡ joined_m words

pub given : (words read reference : List ℕ) (room : ℕ) → refusal_there words read reference room ≡ Ok tt → Given words read reference
given words read reference room e =
    let a = accepted_there words read reference room e in
    record {
      at_most = at_most_there words read reference a.few a.short;
      same_read = read_there words read reference;
      same_reference = reference_there words read reference;
      no_M = no_M_there words read reference a.operations;
      below = λ h. below_there words read reference h a.short;
    }

pub given_back : (words : List ℕ) (room : ℕ) → refusal_back words room ≡ Ok tt → GivenBack words
given_back words room e =
    let a = accepted_back words room e in
    record {
      at_most = at_most_back words;
      same_read = read_back words;
      same_reference = reference_back words;
      all_plain = plain_back words a.operations;
      below = λ h. below_back words h a.short;
    }

pub round_trip : (words read reference : List ℕ) (room : ℕ) → refusal_there words read reference room ≡ Ok tt → ThereAndBack words read reference
round_trip words read reference room e =
    let a = accepted_there words read reference room e in
    let g = given words read reference room e in
    record {
      accepted = λ other h. back_accepts (extended words read reference) other
          (record {
            operations = operations_there words read reference a.operations;
            few = omega (arith, g.at_most);
            short = omega (arith, g.same_read, a.short);
            output = h;
          });
      back = there_and_back words read reference a.operations;
    }

-- the same of two exported calls: the second is given the first words that the first left, as many as it answered
pub round_trip_calls : (words read reference old later : List ℕ) {new newest : List ℕ} {told answer : CigarAnswer}
    → Converted (refusal_there words read reference (length old)) (extended words read reference) old new told
    → told.kind ≡ 0
    → 2048 ≤ length later
    → Converted (refusal_back (take told.count new) (length later)) (plain (take told.count new)) later newest answer
    → (answer ≡ record { kind = 0; number = 0; with = 0; count = length (joined_m words) }) × (newest ≡ written (joined_m words) later)
round_trip_calls words read reference old later {new} {newest} {told} {answer} there e room back =
    let accepted = unrefused (refusal_there words read reference (length old)) there e in
    let first = words-given (refusal_there words read reference (length old)) accepted there in
    let trip = round_trip words read reference (length old) accepted in
    let same = take_count (extended words read reference) old new told.count (ap (λ (t : CigarAnswer). t.count) first.0) first.1 in
    let again : Converted (refusal_back (extended words read reference) (length later)) (joined_m words) later newest answer = rw (← trip.back, ← same) back in
    words-given (refusal_back (extended words read reference) (length later)) (trip.accepted (length later) room) again
