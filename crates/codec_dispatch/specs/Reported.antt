-- Document 02, Req 03: the answers as numbers, and the chain of calls as a host makes it.
use Rattle.std.specs.Prelude.{◌==◌, if◌then◌else◌, List, [], ◌∷◌, ◌≡◌}
use Rattle.codec_dispatch.specs.declared.dispatch.Dispatcher.{Dispatcher}
use Rattle.codec_dispatch.specs.declared.dispatch.LaneRefusal.TheVariants.{NoSuchLane, LaneFull}
use Rattle.codec_dispatch.specs.declared.report.DispatchAnswer.{DispatchAnswer}
use Rattle.codec_dispatch.specs.Dispatch.{number_of}
use Rattle.codec_dispatch.specs.Turns.{Answer, Added, Served, Idle, Refused, Outcome, Call, outcome_of}

-- kind 0: added; 1: the lane served; 2: idle; 3: a refusal's number, with 0
abbrev pub reported_as : Answer → Dispatcher → DispatchAnswer
reported_as Added left = record { kind = 0; lane = 0; number = 0; with = 0; dispatcher = left }
reported_as (Served lane) left = record { kind = 1; lane = lane; number = 0; with = 0; dispatcher = left }
reported_as Idle left = record { kind = 2; lane = 0; number = 0; with = 0; dispatcher = left }
reported_as (Refused why) left = record { kind = 3; lane = 0; number = number_of why; with = 0; dispatcher = left }

abbrev pub reported : Outcome → DispatchAnswer
reported outcome = reported_as outcome.answer outcome.left

-- the answer that the numbers stand for
unfoldable pub answer_of : DispatchAnswer → Answer
answer_of told =
    if told.kind == 0 then Added
    else (if told.kind == 1 then Served told.lane
    else (if told.kind == 2 then Idle
    else Refused (if told.number == 22 then NoSuchLane else LaneFull)))

-- 'each call gets the dispatcher that the one before left': what a host is told, where each call keeps its exported contract
pub data Told : Dispatcher → List Call → List DispatchAnswer → Type 0 where
  none : {d : Dispatcher} → Told d [] []
  then : {d : Dispatcher} {call : Call} {calls : List Call} {told : DispatchAnswer} {more : List DispatchAnswer} → told ≡ reported (outcome_of d call)
      → Told told.dispatcher calls more
      → Told d (call ∷ calls) (told ∷ more)
