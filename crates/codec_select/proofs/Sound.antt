-- What holds of an entered record where nothing is refused.
use mathlib.Core.Bool.{Bool, true, false, not, ◌||◌}
use mathlib.Core.List.{List, [], ◌∷◌}
use mathlib.Core.Path.{◌≡◌, refl}
use Prim.Native.Nat.{ℕ, ◌+◌, ◌≤◌, ◌<◌}
use native.Mathlib.Omega.{arith}
use borrow.Author.Tests.{ltb-false, eqb-true, eqb-false, not-false}
use lib.Dec.{eqb, ltb}
use lib.ListN.{length, get_or, length-take}
use Rattle.std.specs.Prelude.{Option, None, Some, Ok, slice_get}
use Rattle.std.specs.List.{list_all}
use Rattle.std.proofs.lemmas.Bool.{or_parts, false_from_ne_true}
use Rattle.lists.specs.Numbers.{numbers_from}
use Rattle.lists.proofs.Numbers.{numbers_has}
use Rattle.raw_bam.specs.Cigar.{is_operation, read_length, reference_length}
use Rattle.codec_pairing.specs.declared.refusal.Read.{Read}
use Rattle.caller.specs.declared.refusal.Refusal.{Refusal}
use Rattle.caller.specs.declared.refusal.Refusal.TheVariants.{MinimumTooLong, TooManyRecords, BadPart, BadOperation, BadLength, BadPlace}
use Rattle.caller.proofs.Refusals.{passed, both_passed}
use Rattle.codec_pairing.specs.Refusals.{Reads, ops_of, bad_part, bad_words, bad_bases, bad_place, has_bad_part, has_bad_words, has_bad_bases, has_bad_place, read_of, gives, lowest_bad, refused_at, refusal_of_records, first_refusal}
use Rattle.codec_window.specs.Alignment.{alignment_of, Admitted}

-- what refusals 3 to 6 leave of a record
pub record Sound (ops : List ℕ) (r : Read) : Type 0 where
  pub inside : r.start + r.count ≤ length ops
  pub few : r.count ≤ 64
  pub operations : list_all is_operation (ops_of ops r) ≡ true
  pub clipped : r.clipped_length ≡ read_length (ops_of ops r)
  pub short : r.clipped_length ≤ 1024
  pub placed : 0 < r.position
  pub near : r.position ≤ 536870911
  pub narrow : reference_length (ops_of ops r) ≤ 536870911

sound : (ops : List ℕ) (r : Read) → has_bad_part ops r ≡ false → has_bad_words ops r ≡ false → has_bad_bases ops r ≡ false → has_bad_place ops r ≡ false → Sound ops r
unfolding bad_part bad_words bad_bases bad_place
sound ops r good_part good_words good_bases good_place =
    let part = or_parts (ltb (length ops) (r.start + r.count)) (ltb 64 r.count) good_part in
    let bases = or_parts (ltb 1024 r.clipped_length) (not (eqb r.clipped_length (read_length (ops_of ops r)))) good_bases in
    let place = or_parts (eqb r.position 0 || ltb 536870911 r.position) (ltb 536870911 (reference_length (ops_of ops r))) good_place in
    let position = or_parts (eqb r.position 0) (ltb 536870911 r.position) place.0 in
    let some : r.position ≡ 0 → ⊥ = eqb-false r.position 0 position.0 in
    record {
      inside = ltb-false _ _ part.0;
      few = ltb-false _ _ part.1;
      operations = not-false _ good_words;
      clipped = eqb-true _ _ (not-false _ bases.1);
      short = ltb-false _ _ bases.0;
      placed = omega arith;
      near = ltb-false _ _ position.1;
      narrow = ltb-false _ _ place.1;
    }

none_found : (cause : ℕ → Refusal) (found : Option ℕ) → refused_at cause found ≡ Ok tt → found ≡ None
none_found cause None e = refl
none_found cause (Some i) e = cc

none-listed : (records : List ℕ) → slice_get records 0 ≡ None → length records ≡ 0
none-listed [] e = refl
none-listed (i ∷ later) e = cc

module _ (minimum records : ℕ) (f : Reads) (none : first_refusal minimum records f ≡ Ok tt) where
  -- refusals 1 and 2
  pub within_limits_lem : (minimum ≤ 2147483647) × (records ≤ 512) × (length f.ops ≤ 8192) × (refusal_of_records f ≡ Ok tt)
  unfolding first_refusal
  within_limits_lem =
      let one = passed (ltb 2147483647 minimum) MinimumTooLong _ none in
      let two = passed (ltb 512 records || ltb 8192 (length f.ops)) TooManyRecords (refusal_of_records f) one.1 in
      let sizes = or_parts (ltb 512 records) (ltb 8192 (length f.ops)) two.0 in
      (ltb-false _ _ one.0, ltb-false _ _ sizes.0, ltb-false _ _ sizes.1, two.1)

  -- refusals 3 to 6: no record is bad
  none_bad : (lowest_bad (has_bad_part f.ops) f ≡ None) × (lowest_bad (has_bad_words f.ops) f ≡ None) × (lowest_bad (has_bad_bases f.ops) f ≡ None) × (lowest_bad (has_bad_place f.ops) f ≡ None)
  unfolding refusal_of_records
  none_bad =
      let part = both_passed (refused_at BadPart (lowest_bad (has_bad_part f.ops) f)) _ within_limits_lem.3 in
      let words = both_passed (refused_at BadOperation (lowest_bad (has_bad_words f.ops) f)) _ part.1 in
      let bases = both_passed (refused_at BadLength (lowest_bad (has_bad_bases f.ops) f)) _ words.1 in
      (none_found BadPart _ part.0, none_found BadOperation _ words.0, none_found BadLength _ bases.0, none_found BadPlace _ bases.1)

  good : (bad : Read → Bool) → lowest_bad bad f ≡ None → (i : ℕ) → i < length f.clipped → get_or f.entered i false ≡ true → bad (read_of f i) ≡ false
  unfolding lowest_bad gives
  good bad none i h entered =
      false_from_ne_true (bad (read_of f i))
      (λ is_bad.
      let at = numbers_has (gives bad f) 0 (length f.clipped) i (omega arith) (omega arith) (rw entered is_bad) in
      let empty = none-listed (numbers_from (gives bad f) 0 (length f.clipped)) none in
      omega (arith, at.1))

  -- so that an entered one is sound
  pub entered_sound : (i : ℕ) → i < length f.clipped → get_or f.entered i false ≡ true → Sound f.ops (read_of f i)
  entered_sound i h entered = sound f.ops (read_of f i) (good _ none_bad.0 i h entered) (good _ none_bad.1 i h entered) (good _ none_bad.2 i h entered) (good _ none_bad.3 i h entered)

-- a sound record's alignment is one that steps 6 and 7 take
pub sound-alignment : {ops : List ℕ} {r : Read} → Sound ops r → Admitted (alignment_of r.position r.clipped_length (ops_of ops r))
sound-alignment {ops} {r} s =
    record {
      operations = simp length-take (omega (arith, s.few));
      clipped = s.clipped;
      short = s.short;
      near = s.near;
      narrow = s.narrow;
    }
