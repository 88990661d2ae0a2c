use Rattle.std.proofs.Common.{◌≡◌, ◌∙◌, ◌<◌, ◌≤◌, ℕ, List, [], ◌∷◌, ◌++◌, length, sym, ap, append_assoc, arith}
use Rattle.std.proofs.lemmas.List.{append-nil, length-map, map-append}
use native.Mathlib.Nat.{sub-zero}
use Rattle.lists.proofs.Numbers.{numbers_yes, numbers_no, numbers_end}
use Rattle.codec_records.specs.declared.side.Sides.{Sides}
use Rattle.codec_pairing.specs.Pairing.{earlier_records, r1_of, r2_of, side_r1, side_r2}
use Rattle.codec_pairing.specs.Family.{opens_pair, later_of}
use Rattle.codec_pairing.proofs.Sides.{passed_fewer, opens_of_some, opens_not_of_none}
use Rattle.codec_pairing.proofs.pairing.write_sides.Goals as goal
use Rattle.codec_pairing.proofs.pairing.write_sides.Goals.{At-loop-i, In-Some, in-Some, in_default, then-is_first, else-is_first}

pub loop-i-init : goal.loop-i-init
unfolding earlier_records
loop-i-init c = ([], rw sub-zero, c.clear.ensures.0, c.clear.ensures.1)

-- where a pair enters there is room
room : (c : In-Some) → length c.loop-i.invariant.0 < 256
room c =
    let f = c.args.family.now in
    let opens = opens_of_some (opens_pair f c.loop-i.i) (later_of f c.loop-i.i) c.in-Some.ensures.value in
    omega (arith, passed_fewer f.flags.now f.names.now f.verdicts.now c.loop-i.invariant.0 c.loop-i.i (omega arith) opens.0 c.loop-i.invariant.1, f.alike.few)

pub push-requires : goal.push-requires
push-requires c = rw (c.loop-i.invariant.2, length-map) (room (goal.at.push-requires c).In-Some)

pub push-requires-in-Some : goal.push-requires-in-Some
push-requires-in-Some c = rw (c.loop-i.invariant.3, length-map) (room (goal.at.push-requires-in-Some c).In-Some)

pub loop-i-preserved : goal.loop-i-preserved
unfolding r1_of r2_of
loop-i-preserved c =
    let f = c.args.family.now in
    let i = c.loop-i.i in
    let done = c.loop-i.invariant.0 in
    elim c.match-later_of.branch [
      | in-Some w ↦
          let opens = opens_of_some (opens_pair f i) (later_of f i) w.in-Some.ensures.value in
          let found = numbers_yes (opens_pair f) (length f.flags.now) i (omega arith) opens.0 in
          let pair : w.if-is_first.r1 ≡ (r1_of f.flags.now f.names.now i, r2_of f.flags.now f.names.now i) =
          elim w.if-is_first.branch [
            | then-is_first w' ↦ w'.r1-is ∙ rw (sym w.is_first_segment-is_first.ensures ∙ w'.if-is_first.true, opens.1)
            | else-is_first w' ↦ w'.r1-is ∙ rw (sym w.is_first_segment-is_first.ensures ∙ w'.if-is_first.false, opens.1)
          ] in (
            done ++ (i ∷ []),
            append_assoc done (i ∷ []) _ ∙ ap (λ (l : List ℕ). done ++ l) (sym found) ∙ c.loop-i.invariant.1,
            ap Sides.r1 w.sides-is ∙ w.push.ensures ∙ rw (pair, c.loop-i.invariant.2) (sym (map-append _ done (i ∷ []))),
            ap Sides.r2 w.sides-is ∙ w.push-in-Some.ensures ∙ rw (pair, c.loop-i.invariant.3) (sym (map-append _ done (i ∷ []))),
          )
      | in_default w ↦
          let passed = numbers_no (opens_pair f) (length f.flags.now) i (omega arith) (opens_not_of_none (opens_pair f i) (later_of f i) w.in_default.ensures.value) in (
            done,
            ap (λ (l : List ℕ). done ++ l) (sym passed) ∙ c.loop-i.invariant.1,
            ap Sides.r1 w.sides-is ∙ c.loop-i.invariant.2,
            ap Sides.r2 w.sides-is ∙ c.loop-i.invariant.3,
          )
    ]

-- the pairs behind the last record are all of them
all : (c : At-loop-i) → let f = c.args.family.now in length f.flags.now ≤ c.loop-i.i → c.loop-i.invariant.0 ≡ earlier_records f.flags.now f.names.now f.verdicts.now
all c none =
    let f = c.args.family.now in
    let end = numbers_end (opens_pair f) (length f.flags.now) c.loop-i.i none in
    sym (append-nil c.loop-i.invariant.0) ∙ rw end at c.loop-i.invariant.1

pub returns-clause-r1 : goal.returns-clause-r1
unfolding side_r1
returns-clause-r1 c = let e = all (goal.at.returns-clause-r1 c).At-loop-i (omega arith) in rw e at c.loop-i.invariant.2

pub returns-clause-r2 : goal.returns-clause-r2
unfolding side_r2
returns-clause-r2 c = let e = all (goal.at.returns-clause-r2 c).At-loop-i (omega arith) in rw e at c.loop-i.invariant.3
