-- A lane that waits is served in time, however many families are added.
use Rattle.std.proofs.Common.{Bool, true, false, ◌||◌, ◌==◌, cond, List, [], ◌∷◌, Option, Some, None, ◌≡◌, refl, sym, ap, subst, ◌⊎◌, inl, inr, ℕ, zero, suc, ◌+◌, ◌-◌, ◌%◌, ◌≤◌, ◌<◌, nat_lt, nat_eq, length, slice_index, slice_set, take, arith, add-one}
use mathlib.Core.Bool.{false≢true}
use mathlib.Core.Logic.{⊎_elim}
use native.Mathlib.Decide.{ℕ_discrete}
use native.Mathlib.Nat.{eq-zero-or-pos}
use borrow.Author.Tests.{eqb-false, ltb-true, ltb-false, lt-ltb, le-ltb}
use lib.ListN.{get_or-eq_default}
use Rattle.std.proofs.Math.Seq.{get_or-set_same, get_or-set_other}
use Rattle.std.proofs.lemmas.List.Sums.{sum_by-cons}
use Rattle.codec_dispatch.specs.declared.dispatch.Dispatcher.{Dispatcher}
use Rattle.codec_dispatch.specs.declared.dispatch.LaneRefusal.TheVariants.{NoSuchLane}
use Rattle.codec_dispatch.specs.Dispatch.{count_of, waits, raised, next, lowered, after_turn}
use Rattle.codec_dispatch.specs.Turns.{Answer, Served, Refused, answer_of_turn, Call, Add, Turn, Outcome, outcome_of, Turns, none, then, answers_of, turns_of, asks_turn, turns_in, serves_lane, is_served, distance, turns_to_serve}
use Rattle.codec_dispatch.proofs.Lanes.{next_of, turn_as, add_as, add_keeps, turn_keeps, add_above, turn_above}

-- more answers serve no fewer lanes
served_more : (lane : ℕ) (xs : List Answer) (m n : ℕ) → m ≤ n → is_served lane (take m xs) ≡ true → is_served lane (take n xs) ≡ true
served_more lane xs zero n h s = absurd (false≢true s)
served_more lane xs (suc m) zero h s = absurd (omega arith)
served_more lane [] (suc m) (suc n) h s = s
served_more lane (x ∷ xs) (suc m) (suc n) h s = by_first (serves_lane lane x) s (served_more lane xs m n (omega arith))
  where
    by_first : (first : Bool) → first || is_served lane (take m xs) ≡ true → (is_served lane (take m xs) ≡ true → is_served lane (take n xs) ≡ true) → first || is_served lane (take n xs) ≡ true
    by_first true s more = refl
    by_first false s more = more s

-- the count of a lane is above 0 only inside the list
waits-within : (d : Dispatcher) (lane : ℕ) → waits d lane ≡ true → lane < length d.waiting
waits-within d lane w =
    ⊎_elim
    (λ beyond. absurd (omega (arith, ltb-true 0 (slice_index d.waiting lane) w, get_or-eq_default d.waiting 0 {n = lane} (omega arith))))
    (λ within. omega arith)
    (eq-zero-or-pos (length d.waiting - lane))

-- an add lowers no count
raised-waits : (d : Dispatcher) (other lane : ℕ) → waits d lane ≡ true → waits (raised d other) lane ≡ true
raised-waits d other lane w = by_lane (ℕ_discrete lane other)
  where
    by_lane : Dec (lane ≡ other) → nat_lt 0 (slice_index (slice_set d.waiting other (count_of d other + 1)) lane) ≡ true
    by_lane (yes e) =
        rw (e) (lt-ltb 0 (slice_index (slice_set d.waiting other (count_of d other + 1)) other)
        (omega (arith, get_or-set_same d.waiting other (count_of d other + 1) 0 (omega (arith, waits-within d lane w)))))
    by_lane (no differ) = rw (get_or-set_other d.waiting other lane (count_of d other + 1) 0 differ) w

-- a turn lowers no other count
lowered-waits : (d : Dispatcher) (other lane : ℕ) → (lane ≡ other → ⊥) → waits d lane ≡ true → waits (lowered d other) lane ≡ true
lowered-waits d other lane differ w = rw (get_or-set_other d.waiting other lane (count_of d other - 1) 0 differ) w

-- what an add leaves: the lane served last, a lane that waits, and the turns
record AfterAdd (d : Dispatcher) (lane : ℕ) (o : Outcome) : Type 0 where
  pub same_last : o.left.last ≡ d.last
  pub still : waits o.left lane ≡ true
  pub no_turn : (answers : List Answer) → turns_of (o.answer ∷ answers) ≡ turns_of answers

after-add : (d : Dispatcher) (other lane : ℕ) → waits d lane ≡ true → AfterAdd d lane (outcome_of d (Add other))
after-add d other lane w = by_tests (nat_lt 7 other || nat_lt 7 d.last) (count_of d other == 65535)
  where
    by_tests : (far full : Bool)
        → AfterAdd d lane (add_as far full d other)
    by_tests true full = record { same_last = refl; still = w; no_turn = λ answers. refl }
    by_tests false true = record { same_last = refl; still = w; no_turn = λ answers. refl }
    by_tests false false = record { same_last = refl; still = raised-waits d other lane w; no_turn = λ answers. refl }

-- served at the latest at turn number n + 1
abbrev InTime : ℕ → ℕ → List Answer → Type 0
InTime lane n turns = n < length turns → is_served lane (take (n + 1) turns) ≡ true

-- the remainder of a number below 16
below_16 : (n : ℕ) → n < 16 → ((n < 8) × (n % 8 ≡ n)) ⊎ ((8 ≤ n) × (n % 8 + 8 ≡ n))
below_16 n h = ⊎_elim (λ small. inl (omega arith, omega arith)) (λ large. inr (omega arith, omega arith)) (eq-zero-or-pos (n - 7))

-- a number falls at each turn that serves another lane
falls : (last lane place served : ℕ) → last ≤ 7 → lane ≤ 7 → place ≤ (lane + 7 - last) % 8 → served ≡ (last + 1 + place) % 8 → (lane ≡ served → ⊥)
    → (lane + 7 - served) % 8 + 1 ≤ (lane + 7 - last) % 8
falls last lane place served h l p e differ =
    linear ((lane + 7 - last) % 8) ((last + 1 + place) % 8) ((lane + 7 - served) % 8) p e
    (below_16 (lane + 7 - last) (omega arith))
    (below_16 (last + 1 + place) (omega arith))
    (below_16 (lane + 7 - served) (omega arith))
  where
    linear : (far at near : ℕ) → place ≤ far → served ≡ at
        → (((lane + 7 - last) < 8) × (far ≡ lane + 7 - last)) ⊎ ((8 ≤ lane + 7 - last) × (far + 8 ≡ lane + 7 - last))
        → (((last + 1 + place) < 8) × (at ≡ last + 1 + place)) ⊎ ((8 ≤ last + 1 + place) × (at + 8 ≡ last + 1 + place))
        → (((lane + 7 - served) < 8) × (near ≡ lane + 7 - served)) ⊎ ((8 ≤ lane + 7 - served) × (near + 8 ≡ lane + 7 - served))
        → near + 1 ≤ far
    linear far at near q f (inl a) (inl b) (inl c) = omega (arith, h, l, differ)
    linear far at near q f (inl a) (inl b) (inr c) = omega (arith, h, l, differ)
    linear far at near q f (inl a) (inr b) (inl c) = omega (arith, h, l, differ)
    linear far at near q f (inl a) (inr b) (inr c) = omega (arith, h, l, differ)
    linear far at near q f (inr a) (inl b) (inl c) = omega (arith, h, l, differ)
    linear far at near q f (inr a) (inl b) (inr c) = omega (arith, h, l, differ)
    linear far at near q f (inr a) (inr b) (inl c) = omega (arith, h, l, differ)
    linear far at near q f (inr a) (inr b) (inr c) = omega (arith, h, l, differ)

step_served : (d : Dispatcher) (lane served : ℕ) (answers : List Answer) → waits d lane ≡ true
    → ((lane ≡ served → ⊥) → (lane + 7 - served) % 8 + 1 ≤ distance d lane)
    → (waits (lowered d served) lane ≡ true → InTime lane ((lane + 7 - served) % 8) (turns_of answers))
    → InTime lane (distance d lane) (Served served ∷ turns_of answers)
step_served d lane served answers w less later h = rw (add-one) (by_lane (nat_eq served lane) refl)
  where
    by_lane : (same : Bool) → nat_eq served lane ≡ same → same || is_served lane (take (distance d lane) (turns_of answers)) ≡ true
    by_lane true p = refl
    by_lane false p =
        let differ : lane ≡ served → ⊥ = λ e. eqb-false served lane p (sym e) in
        let fewer = less differ in
        served_more lane (turns_of answers) ((lane + 7 - served) % 8 + 1) (distance d lane) fewer
        (later (lowered-waits d served lane differ w) (omega arith))

step-turn : (d : Dispatcher) (lane : ℕ) (answers : List Answer) → lane ≤ 7 → waits d lane ≡ true
    → (waits (outcome_of d Turn).left lane ≡ true → InTime lane (distance (outcome_of d Turn).left lane) (turns_of answers))
    → InTime lane (distance d lane) (turns_of ((outcome_of d Turn).answer ∷ answers))
step-turn d lane answers l w = by_last (nat_lt 7 d.last) refl
  where
    by_last : (above : Bool) → nat_lt 7 d.last ≡ above
        → (waits (turn_as above d).left lane ≡ true → InTime lane (distance (turn_as above d).left lane) (turns_of answers))
        → InTime lane (distance d lane) (turns_of ((turn_as above d).answer ∷ answers))
    by_last true p = λ later. later w
    by_last false p =
        let low : d.last ≤ 7 = ltb-false 7 d.last p in
        let n = next_of d lane low l w in
        subst
        (λ (o : Option ℕ). (waits (after_turn d o) lane ≡ true → InTime lane (distance (after_turn d o) lane) (turns_of answers))
        → InTime lane (distance d lane) (turns_of (answer_of_turn o ∷ answers)))
        (sym n.found)
        (step_served d lane n.served answers w (falls d.last lane n.place n.served low l n.before n.there))

step-add : (d : Dispatcher) (other lane : ℕ) (answers : List Answer) → waits d lane ≡ true
    → (waits (outcome_of d (Add other)).left lane ≡ true → InTime lane (distance (outcome_of d (Add other)).left lane) (turns_of answers))
    → InTime lane (distance d lane) (turns_of ((outcome_of d (Add other)).answer ∷ answers))
step-add d other lane answers w later =
    let a = after-add d other lane w in
    subst (λ (turns : List Answer). InTime lane (distance d lane) turns) (sym (a.no_turn answers))
    (subst (λ (last : ℕ). InTime lane ((lane + 7 - last) % 8) (turns_of answers)) a.same_last (later a.still))

step : (d : Dispatcher) (call : Call) (lane : ℕ) (answers : List Answer) → lane ≤ 7 → waits d lane ≡ true
    → (waits (outcome_of d call).left lane ≡ true → InTime lane (distance (outcome_of d call).left lane) (turns_of answers))
    → InTime lane (distance d lane) (turns_of ((outcome_of d call).answer ∷ answers))
step d (Add other) lane answers l w later = step-add d other lane answers w later
step d Turn lane answers l w later = step-turn d lane answers l w later

-- 'a lane that waits is served': at the latest at turn number distance + 1 of those that are not refused
pub served_in_time : {d : Dispatcher} {calls : List Call} {answers : List Answer} (lane : ℕ) → Turns d calls answers → lane ≤ 7 → waits d lane ≡ true
    → distance d lane < length (turns_of answers)
    → is_served lane (take (distance d lane + 1) (turns_of answers)) ≡ true
served_in_time lane none l w h = absurd (omega arith)
served_in_time lane (then {d} {call} {calls} {answers} rest) l w h = step d call lane answers l w (λ still enough. served_in_time lane rest l still enough) h

-- 'within eight turns that are not refused, however many families others add'
pub served_within_eight : {d : Dispatcher} {calls : List Call} {answers : List Answer} (lane : ℕ) → Turns d calls answers → lane ≤ 7 → waits d lane ≡ true
    → 8 ≤ length (turns_of answers)
    → is_served lane (take turns_to_serve (turns_of answers)) ≡ true
served_within_eight {d} {calls} {answers} lane chain l w h =
    served_more lane (turns_of answers) (distance d lane + 1) turns_to_serve (omega arith) (served_in_time lane chain l w (omega arith))

-- for every list of calls there is such a chain, from any dispatcher, and one only
pub chain_of : (d : Dispatcher) (calls : List Call) → Turns d calls (answers_of d calls)
unfolding answers_of
chain_of d [] = none
chain_of d (call ∷ calls) = then (chain_of (outcome_of d call).left calls)

pub one_chain : {d : Dispatcher} {calls : List Call} {answers : List Answer} → Turns d calls answers → answers ≡ answers_of d calls
unfolding answers_of
one_chain none = refl
one_chain (then {d} {call} rest) = ap {B = List Answer} (λ more. (outcome_of d call).answer ∷ more) (one_chain rest)

-- a lane served last of 0 to 7 is kept so by every call
pub last_kept : (d : Dispatcher) (call : Call) → d.last ≤ 7 → (outcome_of d call).left.last ≤ 7
last_kept d (Add lane) h = omega (arith, add_keeps d lane)
last_kept d Turn h = turn_keeps d h

-- with one above 7 every call is refused, and leaves the dispatcher
pub above_refused : (d : Dispatcher) (call : Call) → 7 < d.last → outcome_of d call ≡ record { answer = Refused NoSuchLane; left = d }
above_refused d (Add lane) h = add_above d lane h
above_refused d Turn h = turn_above d h

-- a lane or idle counts as a turn
found_counts : (found : Option ℕ) (answers : List Answer) → length (turns_of (answer_of_turn found ∷ answers)) ≡ suc (length (turns_of answers))
found_counts (Some lane) answers = refl
found_counts None answers = refl

turn_counts : (d : Dispatcher) (answers : List Answer) → d.last ≤ 7 → length (turns_of ((outcome_of d Turn).answer ∷ answers)) ≡ suc (length (turns_of answers))
turn_counts d answers h = by_last (nat_lt 7 d.last) (le-ltb 7 d.last h)
  where
    by_last : (above : Bool) → above ≡ false → length (turns_of ((turn_as above d).answer ∷ answers)) ≡ suc (length (turns_of answers))
    by_last true e = absurd (false≢true (sym e))
    by_last false e = found_counts (next d) answers

add_counts : (d : Dispatcher) (lane : ℕ) (answers : List Answer) → length (turns_of ((outcome_of d (Add lane)).answer ∷ answers)) ≡ length (turns_of answers)
add_counts d lane answers = by_tests (nat_lt 7 lane || nat_lt 7 d.last) (count_of d lane == 65535)
  where
    by_tests : (far full : Bool)
        → length (turns_of ((add_as far full d lane).answer ∷ answers))
        ≡ length (turns_of answers)
    by_tests true full = refl
    by_tests false true = refl
    by_tests false false = refl

-- what one call adds to the number of turns
abbrev turn_of : Call → ℕ
turn_of call = cond (asks_turn call) 1 0

call_counts : (d : Dispatcher) (call : Call) (calls : List Call) (answers : List Answer) → d.last ≤ 7 → length (turns_of answers) ≡ turns_in calls
    → length (turns_of ((outcome_of d call).answer ∷ answers)) ≡ turns_in (call ∷ calls)
call_counts d (Add lane) calls answers h e = omega (arith, add_counts d lane answers, sum_by-cons turn_of (Add lane) calls)
call_counts d Turn calls answers h e = omega (arith, turn_counts d answers h, sum_by-cons turn_of Turn calls)

-- with a lane served last of 0 to 7 no turn is refused: each counts
pub turns_count : {d : Dispatcher} {calls : List Call} {answers : List Answer} → Turns d calls answers → d.last ≤ 7 → length (turns_of answers) ≡ turns_in calls
turns_count none h = refl
turns_count (then {d} {call} {calls} {answers} rest) h = call_counts d call calls answers h (turns_count rest (last_kept d call h))

-- the same theorem by the calls: eight turns among them, whatever is added between
pub served_within_eight_calls : (d : Dispatcher) (calls : List Call) (lane : ℕ) → d.last ≤ 7 → lane ≤ 7 → waits d lane ≡ true → 8 ≤ turns_in calls
    → is_served lane (take 8 (turns_of (answers_of d calls))) ≡ true
served_within_eight_calls d calls lane h l w enough =
    served_more lane (turns_of (answers_of d calls)) (distance d lane + 1) 8 (omega arith)
    (served_in_time lane (chain_of d calls) l w (omega (arith, turns_count (chain_of d calls) h)))
