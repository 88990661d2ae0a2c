-- The same of what a host is told.
use Rattle.std.proofs.Common.{true, List, ◌∷◌, map, ◌≡◌, refl, sym, ◌∙◌, ap, subst, ℕ, ◌≤◌, length, take}
use Rattle.codec_dispatch.specs.declared.dispatch.Dispatcher.{Dispatcher}
use Rattle.codec_dispatch.specs.declared.dispatch.LaneRefusal.TheVariants.{NoSuchLane, LaneFull}
use Rattle.codec_dispatch.specs.declared.report.DispatchAnswer.{DispatchAnswer}
use Rattle.codec_dispatch.specs.Dispatch.{waits}
use Rattle.codec_dispatch.specs.Turns as turns
use Rattle.codec_dispatch.specs.Turns.{Answer, Added, Served, Idle, Refused, Call, outcome_of, Turns, turns_of, is_served}
use Rattle.codec_dispatch.specs.Reported.{reported_as, answer_of, Told, none, then}
use Rattle.codec_dispatch.proofs.Served.{served_within_eight}

answer_as : (answer : Answer) (left : Dispatcher) → answer_of (reported_as answer left) ≡ answer
unfolding answer_of
answer_as Added left = refl
answer_as (Served lane) left = refl
answer_as Idle left = refl
answer_as (Refused NoSuchLane) left = refl
answer_as (Refused LaneFull) left = refl

left_as : (answer : Answer) (left : Dispatcher) → (reported_as answer left).dispatcher ≡ left
left_as Added left = refl
left_as (Served lane) left = refl
left_as Idle left = refl
left_as (Refused why) left = refl

-- the numbers lose nothing: what a host is told stands for a chain of answers
pub chain_told : {d : Dispatcher} {calls : List Call} {told : List DispatchAnswer} → Told d calls told → Turns d calls (map answer_of told)
chain_told none = turns.none
chain_told (then {d} {call} {calls} {told} {more} e rest) =
    let o = outcome_of d call in
    let a : answer_of told ≡ o.answer = ap answer_of e ∙ answer_as o.answer o.left in
    let l : told.dispatcher ≡ o.left = ap (λ (t : DispatchAnswer). t.dispatcher) e ∙ left_as o.answer o.left in
    subst (λ (answer : Answer). Turns d (call ∷ calls) (answer ∷ map answer_of more)) (sym a)
    (turns.then (subst (λ (left : Dispatcher). Turns left calls (map answer_of more)) l (chain_told rest)))

-- 'a lane that waits is served within eight turns that are not refused', of the exported calls
pub told_within_eight : {d : Dispatcher} {calls : List Call} {told : List DispatchAnswer} (lane : ℕ) → Told d calls told → lane ≤ 7 → waits d lane ≡ true
    → 8 ≤ length (turns_of (map answer_of told))
    → is_served lane (take 8 (turns_of (map answer_of told))) ≡ true
told_within_eight lane chain l w h = served_within_eight lane (chain_told chain) l w h
