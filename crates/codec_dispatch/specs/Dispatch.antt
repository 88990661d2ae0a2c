-- Document 02, Req 03, 'Turns for eight lanes'.
use Rattle.std.specs.Prelude.{Bool, ◌==◌, ◌||◌, if◌then◌else◌, List, Option, Some, None, Result, Ok, Err, ℕ, ◌+◌, ◌-◌, ◌%◌, nat_lt, find, map, slice_index, slice_set, replicate}
use Rattle.std.specs.List.{range_with_len}
use Rattle.codec_dispatch.specs.declared.dispatch.Dispatcher.{Dispatcher}
use Rattle.codec_dispatch.specs.declared.dispatch.LaneRefusal.{LaneRefusal}
use Rattle.codec_dispatch.specs.declared.dispatch.LaneRefusal.TheVariants.{NoSuchLane, LaneFull}

-- 22: 'lane above 7, in a call or as the lane served last'; 23: 'a lane whose waiting count is at 65,535'
abbrev pub number_of : LaneRefusal → ℕ
number_of NoSuchLane = 22
number_of LaneFull = 23

-- 'a fresh one has counts 0 and lane 7 as served last'
abbrev pub fresh : Dispatcher
fresh = record { waiting = replicate 8 0; last = 7 }

-- how many families of a lane wait
abbrev pub count_of : Dispatcher → ℕ → ℕ
count_of d lane = slice_index d.waiting lane

-- 'a lane that waits'
abbrev pub waits : Dispatcher → ℕ → Bool
waits d lane = nat_lt 0 (count_of d lane)

-- 'raised by one as a family is added'
abbrev pub raised : Dispatcher → ℕ → Dispatcher
raised d lane = record { waiting = slice_set d.waiting lane (count_of d lane + 1); last = d.last }

-- the dispatcher with one family more
abbrev pub add : Dispatcher → ℕ → Result Dispatcher LaneRefusal
add d lane =
    if nat_lt 7 lane || nat_lt 7 d.last then Err NoSuchLane
    else (if count_of d lane == 65535 then Err LaneFull
    else Ok (raised d lane))

-- 'after the one served last, in a circle': the eight lanes, that one as the eighth
unfoldable pub circle : ℕ → List ℕ
circle last = map (λ k. (last + 1 + k) % 8) (range_with_len 0 8)

-- 'the first waiting lane after the one served last, in a circle'
abbrev pub next : Dispatcher → Option ℕ
next d = find (waits d) (circle d.last)

-- 'It lowers that lane's count by one'
abbrev pub lowered : Dispatcher → ℕ → Dispatcher
lowered d lane = record { waiting = slice_set d.waiting lane (count_of d lane - 1); last = lane }

-- 'It says idle exactly when no lane waits, and then changes nothing'
abbrev pub after_turn : Dispatcher → Option ℕ → Dispatcher
after_turn d (Some lane) = lowered d lane
after_turn d None = d

-- 'A turn is a call of its own and answers the lane or idle', and leaves a dispatcher
abbrev pub turn : Dispatcher → Result (Option ℕ × Dispatcher) LaneRefusal
turn d = if nat_lt 7 d.last then Err NoSuchLane else Ok (next d, after_turn d (next d))
