use Rattle.std.proofs.Common.{◌≡◌, ◌≤◌, ◌∙◌, ℕ, List, [], ◌∷◌, ◌++◌, length, get_or, drop, length-append, append_assoc, drop_of_length-le, sym, ap, arith}
use Rattle.std.proofs.lemmas.List.{append-nil}
use Rattle.lists.proofs.Written.{written_more, get_d-written_beyond}
use Rattle.codec_records.specs.Side.{kept}
use Rattle.codec_records.proofs.Kept.{kept_yes, kept_no, kept-none}
use Rattle.codec_records.proofs.side.keep_staying.Goals as goal
use Rattle.codec_records.proofs.side.keep_staying.Goals.{At-loop-k, then-stay, else-stay}

-- at the end all that are kept are written
all_kept : (c : At-loop-k) → length c.args.stays.now ≤ c.loop-k.k → c.loop-k.invariant.0 ≡ kept c.args.side.now c.args.stays.now
all_kept c end =
    let side = c.args.side.now in
    let stays = c.args.stays.now in
    let none : kept (drop c.loop-k.k side) (drop c.loop-k.k stays) ≡ [] = rw (drop_of_length-le stays {i = c.loop-k.k} end) (kept-none (drop c.loop-k.k side)) in
    sym (append-nil c.loop-k.invariant.0) ∙ rw none at c.loop-k.invariant.1

pub loop-k-preserved : goal.loop-k-preserved
loop-k-preserved c =
    let side = c.args.side.now in
    let stays = c.args.stays.now in
    let k = c.loop-k.k in
    let done = c.loop-k.invariant.0 in
    let own = get_or side k 0 in
    elim c.if-stay.branch [
      | then-stay w ↦
          let found = kept_yes side stays k (omega (arith, c.requires)) (omega arith) w.if-stay.true in
          let read : get_or c.loop-k.side k 0 ≡ own = ap (λ (l : List ℕ). get_or l k 0) c.loop-k.invariant.4 ∙ get_d-written_beyond done side k 0 (omega arith) in (
            done ++ (own ∷ []),
            append_assoc done (own ∷ []) _ ∙ ap (λ (l : List ℕ). done ++ l) (sym found) ∙ c.loop-k.invariant.1,
            w.count-is ∙ rw c.loop-k.invariant.2 (sym (length-append done (own ∷ []))),
            omega (arith, w.count-is),
            w.side-is ∙ rw (read, c.loop-k.invariant.4, c.loop-k.invariant.2) (written_more done side own (omega (arith, c.requires))),
          )
      | else-stay w ↦
          let passed = kept_no side stays k (omega (arith, c.requires)) (omega arith) w.if-stay.false in
          (done, ap (λ (l : List ℕ). done ++ l) (sym passed) ∙ c.loop-k.invariant.1, w.count-is ∙ c.loop-k.invariant.2, omega (arith, w.count-is), w.side-is ∙ c.loop-k.invariant.4)
    ]

pub returns-clause-value : goal.returns-clause-value
returns-clause-value c = c.loop-k.invariant.2 ∙ ap length (all_kept (goal.at.returns-clause-value c).At-loop-k (omega arith))

pub returns-clause-side_after : goal.returns-clause-side_after
returns-clause-side_after c = rw (all_kept (goal.at.returns-clause-side_after c).At-loop-k (omega arith)) at c.loop-k.invariant.4
