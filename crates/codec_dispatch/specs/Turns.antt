-- Document 02, Req 03, 'Where each call gets the dispatcher that the one before left'.
use Rattle.std.specs.Prelude.{Bool, true, false, List, [], ◌∷◌, Option, Some, None, Result, Ok, Err, ℕ, ◌+◌, ◌-◌, ◌%◌, nat_eq, filter, count_by}
use Rattle.std.specs.List.{list_any}
use Rattle.codec_dispatch.specs.declared.dispatch.Dispatcher.{Dispatcher}
use Rattle.codec_dispatch.specs.declared.dispatch.LaneRefusal.{LaneRefusal}
use Rattle.codec_dispatch.specs.Dispatch.{add, turn}

-- what a call answers: a family was added, the lane served, no lane waits, or why it is refused
pub data Answer : Type 0 where
  Added : Answer
  Served : ℕ → Answer
  Idle : Answer
  Refused : LaneRefusal → Answer

-- that, and the dispatcher that the call leaves: where it is refused, the one that it got
pub record Outcome : Type 0 where
  pub answer : Answer
  pub left : Dispatcher

abbrev pub outcome_of_add : Dispatcher → Result Dispatcher LaneRefusal → Outcome
outcome_of_add d (Ok left) = record { answer = Added; left = left }
outcome_of_add d (Err why) = record { answer = Refused why; left = d }

-- the lane served, or idle
abbrev pub answer_of_turn : Option ℕ → Answer
answer_of_turn (Some lane) = Served lane
answer_of_turn None = Idle

abbrev pub outcome_of_turn : Dispatcher → Result (Option ℕ × Dispatcher) LaneRefusal → Outcome
outcome_of_turn d (Ok turn) = record { answer = answer_of_turn turn.0; left = turn.1 }
outcome_of_turn d (Err why) = record { answer = Refused why; left = d }

-- the calls that a dispatcher gets
pub data Call : Type 0 where
  Add : ℕ → Call
  Turn : Call

abbrev pub outcome_of : Dispatcher → Call → Outcome
outcome_of d (Add lane) = outcome_of_add d (add d lane)
outcome_of d Turn = outcome_of_turn d (turn d)

-- 'each call gets the dispatcher that the one before left': the calls with their answers
pub data Turns : Dispatcher → List Call → List Answer → Type 0 where
  none : {d : Dispatcher} → Turns d [] []
  then : {d : Dispatcher} {call : Call} {calls : List Call} {answers : List Answer} → Turns (outcome_of d call).left calls answers
      → Turns d (call ∷ calls) ((outcome_of d call).answer ∷ answers)

-- the answers of a list of calls, and the dispatcher that they leave
unfoldable pub answers_of : Dispatcher → List Call → List Answer
answers_of d [] = []
answers_of d (call ∷ calls) = (outcome_of d call).answer ∷ answers_of (outcome_of d call).left calls

unfoldable pub left_by : Dispatcher → List Call → Dispatcher
left_by d [] = d
left_by d (call ∷ calls) = left_by (outcome_of d call).left calls

-- 'turns that are not refused': the answers of a lane or idle, in order
abbrev pub is_turn : Answer → Bool
is_turn Added = false
is_turn (Served lane) = true
is_turn Idle = true
is_turn (Refused why) = false

abbrev pub turns_of : List Answer → List Answer
turns_of answers = filter is_turn answers

-- the answer serves the lane
abbrev pub serves_lane : ℕ → Answer → Bool
serves_lane lane Added = false
serves_lane lane (Served served) = nat_eq served lane
serves_lane lane Idle = false
serves_lane lane (Refused why) = false

-- 'is served': one of the answers serves the lane
abbrev pub is_served : ℕ → List Answer → Bool
is_served lane answers = list_any (serves_lane lane) answers

-- how many lanes the circle has before a lane: 0 for the one after the lane served last, 7 for that lane itself
abbrev pub distance : Dispatcher → ℕ → ℕ
distance d lane = (lane + 7 - d.last) % 8

-- 'a lane that waits is served within eight turns'
abbrev pub turns_to_serve : ℕ
turns_to_serve = 8

-- how many of the calls are turns
abbrev pub asks_turn : Call → Bool
asks_turn (Add lane) = false
asks_turn Turn = true

abbrev pub turns_in : List Call → ℕ
turns_in calls = count_by asks_turn calls
