-- Laws of one call: which lane is next, and what an add and a turn leave.
use Rattle.std.proofs.Common.{Bool, true, false, ◌||◌, ◌==◌, if◌then◌else◌, List, [], ◌∷◌, Option, Some, None, Ok, Err, ◌≡◌, refl, sym, ◌∙◌, ap, ◌↔◌, ℕ, zero, suc, ◌+◌, ◌-◌, ◌%◌, ◌≤◌, ◌<◌, nat_lt, length, slice_index, find, arith}
use mathlib.Core.Bool.{false≢true}
use borrow.Author.Tests.{ltb-false, lt-ltb, le-ltb}
use Rattle.std.proofs.lemmas.Bool.{false_from_ne_true}
use Rattle.std.proofs.lemmas.List.FromFn.{get_or-map-range_with_len}
use Rattle.codec_dispatch.specs.declared.dispatch.Dispatcher.{Dispatcher}
use Rattle.codec_dispatch.specs.declared.dispatch.LaneRefusal.TheVariants.{NoSuchLane, LaneFull}
use Rattle.codec_dispatch.specs.Dispatch.{count_of, waits, raised, circle, next, after_turn}
use Rattle.codec_dispatch.specs.Turns.{Served, Idle, Refused, Add, Turn, Outcome, outcome_of, outcome_of_add, answer_of_turn, outcome_of_turn}

-- the first lane that meets a test stands no later than any that does
pub record First (test : ℕ → Bool) (lanes : List ℕ) (i : ℕ) : Type 0 where
  pub place : ℕ
  pub before : place ≤ i
  pub found : find test lanes ≡ Some (slice_index lanes place)
  pub meets : test (slice_index lanes place) ≡ true

first_at : (test : ℕ → Bool) (lanes : List ℕ) (i : ℕ) → i < length lanes → test (slice_index lanes i) ≡ true → First test lanes i
first_at test [] i h w = absurd (omega arith)
first_at test (lane ∷ lanes) zero h w = record { place = 0; before = omega arith; found = rw w; meets = w }
first_at test (lane ∷ lanes) (suc i) h w = by_first (test lane) refl (first_at test lanes i (omega arith) w)
  where
    by_first : (t : Bool) → test lane ≡ t → First test lanes i → First test (lane ∷ lanes) (suc i)
    by_first true p f = record { place = 0; before = omega arith; found = rw p; meets = p }
    by_first false p f = record { place = suc f.place; before = omega (arith, f.before); found = rw p f.found; meets = f.meets }

-- where none meets it there is no first
first_none : (test : ℕ → Bool) (lanes : List ℕ) → ((i : ℕ) → i < length lanes → test (slice_index lanes i) ≡ false) → find test lanes ≡ None
first_none test [] h = refl
first_none test (lane ∷ lanes) h = rw (h 0 (omega arith)) (first_none test lanes (λ i below. h (suc i) (omega arith)))

-- a lane that is found is one of them, and meets the test
pub record Found (test : ℕ → Bool) (lanes : List ℕ) (lane : ℕ) : Type 0 where
  pub place : ℕ
  pub within : place < length lanes
  pub here : lane ≡ slice_index lanes place
  pub meets : test lane ≡ true

first_found : (test : ℕ → Bool) (lanes : List ℕ) (lane : ℕ) → find test lanes ≡ Some lane → Found test lanes lane
first_found test [] lane e = cc
first_found test (first ∷ lanes) lane e = by_first (test first) refl e (first_found test lanes lane)
  where
    by_first : (t : Bool) → test first ≡ t → (if t then Some first else find test lanes) ≡ Some lane
        → (find test lanes ≡ Some lane → Found test lanes lane)
        → Found test (first ∷ lanes) lane
    by_first true p e rest = record { place = 0; within = omega arith; here = cc; meets = cc }
    by_first false p e rest = let f = rest e in record { place = suc f.place; within = omega (arith, f.within); here = f.here; meets = f.meets }

length-circle : (last : ℕ) → length (circle last) ≡ 8
unfolding circle
length-circle last = refl

circle_at : (last k : ℕ) → k < 8 → slice_index (circle last) k ≡ (last + 1 + k) % 8
unfolding circle
circle_at last k h = get_or-map-range_with_len (λ i. (last + 1 + i) % 8) 0 8 k k 0 h (omega arith)

-- a lane stands in the circle at its distance
lane_at : (last lane : ℕ) → last ≤ 7 → lane ≤ 7 → slice_index (circle last) ((lane + 7 - last) % 8) ≡ lane
lane_at last lane h l = circle_at last ((lane + 7 - last) % 8) (omega arith) ∙ omega arith

-- with a lane that waits, the next lane stands in the circle no later, and it waits
pub record Next (d : Dispatcher) (lane : ℕ) : Type 0 where
  pub served : ℕ
  pub place : ℕ
  pub before : place ≤ (lane + 7 - d.last) % 8
  pub there : served ≡ (d.last + 1 + place) % 8
  pub found : next d ≡ Some served
  pub waited : waits d served ≡ true

pub next_of : (d : Dispatcher) (lane : ℕ) → d.last ≤ 7 → lane ≤ 7 → waits d lane ≡ true → Next d lane
next_of d lane h l w =
    let at : slice_index (circle d.last) ((lane + 7 - d.last) % 8) ≡ lane = lane_at d.last lane h l in
    let f = first_at (waits d) (circle d.last) ((lane + 7 - d.last) % 8) (omega (arith, length-circle d.last)) (ap (waits d) at ∙ w) in
    record {
      served = slice_index (circle d.last) f.place;
      place = f.place;
      before = f.before;
      there = circle_at d.last f.place (omega (arith, f.before));
      found = f.found;
      waited = f.meets;
    }

-- a lane that is next is one of the eight, and it waits
pub next_found : (d : Dispatcher) (lane : ℕ) → next d ≡ Some lane → (lane ≤ 7) × (waits d lane ≡ true)
next_found d lane e =
    let f = first_found (waits d) (circle d.last) lane e in
    (omega (arith, f.here, circle_at d.last f.place (omega (arith, f.within, length-circle d.last))), f.meets)

next-none : (d : Dispatcher) → ((lane : ℕ) → lane ≤ 7 → waits d lane ≡ false) → next d ≡ None
next-none d h =
    first_none (waits d) (circle d.last)
    (λ i below. ap (waits d) (circle_at d.last i (omega (arith, length-circle d.last))) ∙ h ((d.last + 1 + i) % 8) (omega arith))

-- a turn, by the test of refusal 22
abbrev pub turn_as : Bool → Dispatcher → Outcome
turn_as above d = outcome_of_turn d (if above then Err NoSuchLane else Ok (next d, after_turn d (next d)))

-- 'It says idle exactly when no lane waits, and then changes nothing'
pub idle_when : (d : Dispatcher) → d.last ≤ 7 → ((lane : ℕ) → lane ≤ 7 → waits d lane ≡ false) → ((outcome_of d Turn).answer ≡ Idle) × ((outcome_of d Turn).left ≡ d)
idle_when d h none = simp (le-ltb 7 d.last h, next-none d none) (refl, refl)

pub idle_only : (d : Dispatcher) → (outcome_of d Turn).answer ≡ Idle → (lane : ℕ) → lane ≤ 7 → waits d lane ≡ false
idle_only d e lane l = by_last (nat_lt 7 d.last) refl e
  where
    by_last : (above : Bool) → nat_lt 7 d.last ≡ above → (turn_as above d).answer ≡ Idle → waits d lane ≡ false
    by_last true p f = cc
    by_last false p f =
        false_from_ne_true (waits d lane) (λ w.
        let n = next_of d lane (ltb-false 7 d.last p) l w in
        let g : Served n.served ≡ Idle = sym (ap answer_of_turn n.found) ∙ f in
        cc)

pub idle_exactly : (d : Dispatcher) → d.last ≤ 7 → ((outcome_of d Turn).answer ≡ Idle) ↔ ((lane : ℕ) → lane ≤ 7 → waits d lane ≡ false)
idle_exactly d h = (idle_only d, λ none. (idle_when d h none).0)

-- an add, by the tests of refusals 22 and 23
abbrev pub add_as : (far full : Bool) → Dispatcher → ℕ → Outcome
add_as far full d lane = outcome_of_add d (if far then Err NoSuchLane else (if full then Err LaneFull else Ok (raised d lane)))

-- a lane served last of 0 to 7 is kept so by every call
pub add_keeps : (d : Dispatcher) (lane : ℕ) → (outcome_of d (Add lane)).left.last ≡ d.last
add_keeps d lane = by_tests (nat_lt 7 lane || nat_lt 7 d.last) (count_of d lane == 65535)
  where
    by_tests : (far full : Bool) → (add_as far full d lane).left.last ≡ d.last
    by_tests true full = refl
    by_tests false true = refl
    by_tests false false = refl

pub turn_keeps : (d : Dispatcher) → d.last ≤ 7 → (outcome_of d Turn).left.last ≤ 7
turn_keeps d h = by_last (nat_lt 7 d.last) (by_next (next d) refl)
  where
    by_next : (found : Option ℕ) → next d ≡ found → (after_turn d found).last ≤ 7
    by_next None e = h
    by_next (Some lane) e = (next_found d lane e).0

    by_last : (above : Bool) → (after_turn d (next d)).last ≤ 7 → (turn_as above d).left.last ≤ 7
    by_last true rest = h
    by_last false rest = rest

-- with a lane served last above 7 every call is refused and changes nothing
pub add_above : (d : Dispatcher) (lane : ℕ) → 7 < d.last → outcome_of d (Add lane) ≡ record { answer = Refused NoSuchLane; left = d }
add_above d lane h = by_tests (nat_lt 7 lane) (nat_lt 7 d.last) (lt-ltb 7 d.last h)
  where
    by_tests : (far above : Bool) → above ≡ true → add_as (far || above) (count_of d lane == 65535) d lane ≡ record { answer = Refused NoSuchLane; left = d }
    by_tests true above e = refl
    by_tests false true e = refl
    by_tests false false e = absurd (false≢true e)

pub turn_above : (d : Dispatcher) → 7 < d.last → outcome_of d Turn ≡ record { answer = Refused NoSuchLane; left = d }
turn_above d h = by_last (nat_lt 7 d.last) (lt-ltb 7 d.last h)
  where
    by_last : (above : Bool) → above ≡ true → turn_as above d ≡ record { answer = Refused NoSuchLane; left = d }
    by_last true e = refl
    by_last false e = absurd (false≢true e)
