-- The room holds the records of the lines passed; the lines left are those of the records left.
use Rattle.std.proofs.Common.{◌≡◌, ◌+◌, rules, refl, sym, ◌∙◌, ap, [], ◌∷◌, ◌++◌, take, length-append, arith, Ok, Err}
use Rattle.line_text.specs.Reading.{lines_from}
use Rattle.std.proofs.Math.Nat.{sub-zero}
use Rattle.line_text.proofs.Readings.{got_none}
use Rattle.record_lines.proofs.Rows.{room_more, room_full, room_lent, records_next, records_stop, records_end}
use Rattle.record_lines.proofs.records.next_records.Goals as goal
use Rattle.record_lines.proofs.records.next_records.Goals.{then-i-lt-RECORDS, else-i-lt-RECORDS}

pub loop-i-init : goal.loop-i-init
loop-i-init c = (c.told-room, c.requires, [], refl, refl, rw sub-zero (sym (got_none _)))

pub returns-in_err-record-clause-reads : goal.returns-in_err-record-clause-reads
returns-in_err-record-clause-reads c =
    let inv = c.loop-i.invariant in
    let is : c.from_residual.result ≡ Err c.in_err-record.field-0.0 = search rules in
    rw is
    (record {
      same = records_stop c.args.text.now c.args.start c.args.count c.loop-i.at c.loop-i.i inv.2 inv.5 c.loop-i-test.true _ c.in_err-record.ensures.same;
      within = c.in_err-record.ensures.within;
    })

pub loop-i-preserved : goal.loop-i-preserved
loop-i-preserved c =
    let inv = c.loop-i.invariant in
    let r = c.in_ok-record.record in
    let filled : take (c.loop-i.i + 1) c.if-i-lt-RECORDS.room ≡ take 512 (inv.2 ++ (r ∷ [])) = elim c.if-i-lt-RECORDS.branch [
      | then-i-lt-RECORDS w ↦ rw w.room-is (room_more _ inv.2 _ inv.0 inv.3 inv.4 r w.if-i-lt-RECORDS.true)
      | else-i-lt-RECORDS w ↦ rw w.room-is (room_full _ inv.2 _ inv.0 inv.3 inv.4 r w.if-i-lt-RECORDS.false)
    ] in (
      c.if-i-lt-RECORDS.array_long,
      c.in_ok-record.ensures.within,
      inv.2 ++ (r ∷ []),
      omega (arith, length-append inv.2 (r ∷ []), inv.3),
      filled,
      records_next c.args.text.now c.args.start c.args.count c.loop-i.at c.loop-i.i inv.2 inv.5 c.loop-i-test.true r c.in_ok-record.after c.in_ok-record.ensures.same,
    )

pub returns-clause-reads : goal.returns-clause-reads
returns-clause-reads c =
    let inv = c.loop-i.invariant in
    let all : c.loop-i.i ≡ c.args.count = omega arith in
    let lent : take c.min.result c.loop-i.room ≡ take 512 inv.2 = rw (c.min.ensures, ← all) (room_lent _ inv.2 _ inv.0 inv.3 inv.4) in
    record { same = ap (λ records. Ok (records, lines_from c.args.text.now c.loop-i.at)) lent ∙ records_end c.args.text.now c.args.start c.args.count c.loop-i.at c.loop-i.i inv.2 inv.5 c.loop-i-test.false; within = inv.1 }
