-- One record less is to be flagged, and it is flagged.
use Rattle.std.proofs.Common.{◌≡◌, ◌+◌, ◌∷◌, [], List, ℕ, true, ap, sym, ◌∙◌, arith, add-one, drop, drop_of_length-le, drop-cons, get_or, length-set}
use Rattle.codec_records.specs.Marks.{flagged}
use Rattle.codec_records.proofs.Words.{flagged-none, flagged_more}
use Rattle.codec_records.proofs.marks.flag_records.Goals as goal

pub loop-record-preserved : goal.loop-record-preserved
loop-record-preserved c =
    let side = c.args.side.now in
    let k = c.loop-record.record-index in
    let flags = c.loop-record.flags in
    let next : drop k side ≡ get_or side k 0 ∷ drop (k + 1) side = rw (add-one, drop-cons side k 0 (omega arith)) in (
      sym (flagged_more (get_or side k 0) (drop (k + 1) side) flags (omega (arith, c.requires k (omega arith)))) ∙ ap (λ (records : List ℕ). flagged records flags) (sym next) ∙ c.loop-record.invariant.0,
      length-set flags (get_or side k 0) true ∙ c.loop-record.invariant.1,
    )

pub returns : goal.returns
returns c =
    let side = c.args.side.now in
    let none : drop c.loop-record.record-index side ≡ [] = drop_of_length-le side {i = c.loop-record.record-index} (omega arith) in
    sym (flagged-none c.loop-record.flags) ∙ rw none at c.loop-record.invariant.0
