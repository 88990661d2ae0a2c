-- The sides hold entered records, as many in each, and at most half of the family's.
use mathlib.Core.Bool.{Bool, true, false, cond}
use mathlib.Core.List.{List, [], ◌∷◌, map}
use mathlib.Core.Logic.{◌⊎◌, inl, inr, ⊎_elim}
use mathlib.Core.Path.{◌≡◌, refl, sym, ◌∙◌, ap}
use Prim.Native.Nat.{ℕ, zero-le, ◌-◌, ◌*◌, ◌≤◌, ◌<◌}
use native.Mathlib.Omega.{arith}
use borrow.Author.Tests.{eq-eqb}
use lib.ListN.{length, get_or, length-map}
use Rattle.std.proofs.lemmas.Bool.{cond_both, and_parts}
use Rattle.std.proofs.lemmas.List.{get_or-map}
use Rattle.lists.proofs.Numbers.{numbers_at, numbers_has}
use Rattle.raw_bam.specs.Flags.{first_segment_flag, has_flag}
use Rattle.codec_pairing.specs.Pairing.{remains, is_namesake, namesakes_from, namesakes, is_pair, is_first, is_entered, opens_pair, earlier_records, later_of, r1_of, r2_of, side_r1, side_r2}
use Rattle.codec_pairing.proofs.Sides.{one_of_two, pair_two, namesakes_at, opens_entered, later_namesake, earlier_half}

one_of_sides : (test : Bool) {a b x : ℕ} → (a ≡ x) ⊎ (b ≡ x) → (cond test a b ≡ x) ⊎ (cond test b a ≡ x)
one_of_sides true (inl e) = inl e
one_of_sides true (inr e) = inr e
one_of_sides false (inl e) = inr e
one_of_sides false (inr e) = inl e

module _ (flags names : List ℕ) (verdicts : List Bool) where
  pub length-side_r1 : length (side_r1 flags names verdicts) ≡ length (earlier_records flags names verdicts)
  unfolding side_r1
  length-side_r1 = length-map (earlier_records flags names verdicts) (r1_of flags names)

  pub length-side_r2 : length (side_r2 flags names verdicts) ≡ length (side_r1 flags names verdicts)
  unfolding side_r2
  length-side_r2 = length-map (earlier_records flags names verdicts) (r2_of flags names) ∙ sym length-side_r1

  pub sides_half : 2 * length (side_r1 flags names verdicts) ≤ length flags
  sides_half = rw length-side_r1 (earlier_half flags names verdicts)

  -- a record of the family that is entered
  abbrev pub Entered : ℕ → Type 0
  Entered x = (x < length flags) × (is_entered flags names verdicts x ≡ true)

  -- so is the later record of a pair
  later_entered : (i : ℕ) → opens_pair flags names verdicts i ≡ true → Entered (later_of flags names i)
  unfolding is_entered
  later_entered i opens =
      let later = later_namesake flags names verdicts i opens in
      let pair = (and_parts (remains (get_or flags i 0)) _ (opens_entered flags names verdicts i opens)).1 in
      (later.0, rw (later.2, later.1) pair)

  -- at each place of a side that picks one of each pair's two records
  entered_at : (pick : ℕ → ℕ) → ((i : ℕ) → Entered i → Entered (later_of flags names i) → Entered (pick i)) → (k : ℕ) → k < length (side_r1 flags names verdicts) → Entered (get_or (map pick (earlier_records flags names verdicts)) k 0)
  unfolding earlier_records
  entered_at pick either k h =
      let within : k < length (earlier_records flags names verdicts) = rw (← length-side_r1) h in
      let t = numbers_at (opens_pair flags names verdicts) 0 (length flags) k within in
      rw (get_or-map pick (earlier_records flags names verdicts) k 0 0 within)
      (either _ (omega arith, opens_entered flags names verdicts _ t.2) (later_entered _ t.2))

  pub side_r1_entered : (k : ℕ) → k < length (side_r1 flags names verdicts) → Entered (get_or (side_r1 flags names verdicts) k 0)
  unfolding side_r1 r1_of
  side_r1_entered = entered_at (r1_of flags names) (λ i earlier later. cond_both (has_flag (get_or flags i 0) first_segment_flag) _ _ Entered (λ _. earlier) (λ _. later))

  pub side_r2_entered : (k : ℕ) → k < length (side_r1 flags names verdicts) → Entered (get_or (side_r2 flags names verdicts) k 0)
  unfolding side_r2 r2_of
  side_r2_entered = entered_at (r2_of flags names) (λ i earlier later. cond_both (has_flag (get_or flags i 0) first_segment_flag) _ _ Entered (λ _. later) (λ _. earlier))

  -- the first of a pair opens it
  opens_first : (x a b : ℕ) → namesakes flags names x ≡ a ∷ b ∷ [] → is_pair verdicts (namesakes flags names x) ≡ true → (a < length flags) × (opens_pair flags names verdicts a ≡ true) × (later_of flags names a ≡ b)
  unfolding opens_pair is_entered is_first later_of
  opens_first x a b two pair =
      let first = rw two at (namesakes_at flags names verdicts x 0 (rw two (omega arith))) in
      let same : namesakes flags names a ≡ namesakes flags names x = ap (λ (name : ℕ). namesakes_from flags names name 0) first.1 in
      (first.0, rw (first.2, same, pair, two, eq-eqb a a refl), rw (same, two))

  -- both records of pair k stand in the sides at place k
  pair_at : (k a x : ℕ) → k < length (earlier_records flags names verdicts) → get_or (earlier_records flags names verdicts) k 0 ≡ a → (a ≡ x) ⊎ (later_of flags names a ≡ x) → (get_or (side_r1 flags names verdicts) k 0 ≡ x) ⊎ (get_or (side_r2 flags names verdicts) k 0 ≡ x)
  unfolding side_r1 side_r2 r1_of r2_of
  pair_at k a x h here one =
      ⊎_elim (λ e. inl (get_or-map (r1_of flags names) (earlier_records flags names verdicts) k 0 0 h ∙ ap (r1_of flags names) here ∙ e))
      (λ e. inr (get_or-map (r2_of flags names) (earlier_records flags names verdicts) k 0 0 h ∙ ap (r2_of flags names) here ∙ e))
      (one_of_sides (has_flag (get_or flags a 0) first_segment_flag) one)

  -- each entered record stands in a side
  pub entered_in : (x : ℕ) → Entered x → (k : ℕ) × (k < length (side_r1 flags names verdicts)) × ((get_or (side_r1 flags names verdicts) k 0 ≡ x) ⊎ (get_or (side_r2 flags names verdicts) k 0 ≡ x))
  unfolding earlier_records is_entered namesakes_from is_namesake
  entered_in x entered =
      let parts = and_parts (remains (get_or flags x 0)) _ entered.1 in
      let records = namesakes flags names x in
      let two = pair_two verdicts records parts.1 in
      let first = opens_first x (get_or records 0 0) (get_or records 1 0) two parts.1 in
      let own = numbers_has (is_namesake flags names (get_or names x 0)) 0 (length flags - 0) x zero-le (omega arith) (rw (eq-eqb (get_or names x 0) (get_or names x 0) refl) parts.0) in
      let one = one_of_two (get_or records 0 0) (get_or records 1 0) own.0 x (omega (arith, own.1, ap length two)) (ap (λ (l : List ℕ). get_or l own.0 0) (sym two) ∙ own.2) in
      let at = numbers_has (opens_pair flags names verdicts) 0 (length flags) (get_or records 0 0) zero-le (omega arith) first.1 in
      (at.0, rw length-side_r1 at.1, pair_at at.0 (get_or records 0 0) x at.1 at.2 (rw first.2 one))
