-- Each part is read where the one before it ends.
use Rattle.std.proofs.Common.{◌≡◌, rules, arith, Err}
use Rattle.family_text.proofs.Calls.{words_read}
use Rattle.family_text.specs.Family.{family_from, family_of}
use Rattle.family_text.proofs.family.family_at.Goals as goal

pub returns-in_err-header : goal.returns-in_err-header
unfolding family_of
returns-in_err-header c =
    let is : c.from_residual.result ≡ Err c.in_err-header.field-0.0 = search rules in
    rw is (record { same = rw (← c.in_err-header.ensures.reads.same); within = c.in_err-header.ensures.reads.within })

pub returns-in_err-records : goal.returns-in_err-records
unfolding family_of family_from
returns-in_err-records c =
    let is : c.from_residual-in_err-records.result ≡ Err c.in_err-records.field-0.0 = search rules in
    rw is (record { same = rw (← c.in_ok-header.ensures.reads.same, ← c.in_err-records.ensures.reads.same); within = c.in_err-records.ensures.reads.within })

pub returns-in_err-words : goal.returns-in_err-words
unfolding family_of family_from
returns-in_err-words c =
    let is : c.from_residual-in_err-words.result ≡ Err c.in_err-words.field-0.0 = search rules in
    let words = words_read _ _ _ c.in_err-words.ensures (omega (arith, c.in_ok-header.ensures.announced.words)) in
    rw is (record { same = rw (← c.in_ok-header.ensures.reads.same, ← c.in_ok-records.ensures.reads.same, ← words.same); within = words.within })

pub returns-in_err-r1 : goal.returns-in_err-r1
unfolding family_of family_from
returns-in_err-r1 c =
    let is : c.from_residual-in_err-r1.result ≡ Err c.in_err-r1.field-0.0 = search rules in
    let words = words_read _ _ _ c.in_ok-words.ensures (omega (arith, c.in_ok-header.ensures.announced.words)) in
    rw is (record { same = rw (← c.in_ok-header.ensures.reads.same, ← c.in_ok-records.ensures.reads.same, ← words.same, ← c.in_err-r1.ensures.same); within = c.in_err-r1.ensures.within })

pub returns-in_err-r2 : goal.returns-in_err-r2
unfolding family_of family_from
returns-in_err-r2 c =
    let is : c.from_residual-in_err-r2.result ≡ Err c.in_err-r2.field-0.0 = search rules in
    let words = words_read _ _ _ c.in_ok-words.ensures (omega (arith, c.in_ok-header.ensures.announced.words)) in
    rw is
    (record {
      same = rw (← c.in_ok-header.ensures.reads.same, ← c.in_ok-records.ensures.reads.same, ← words.same, ← c.in_ok-r1.ensures.same, ← c.in_err-r2.ensures.same);
      within = c.in_err-r2.ensures.within;
    })

pub returns : goal.returns
unfolding family_of family_from
returns c =
    let words = words_read _ _ _ c.in_ok-words.ensures (omega (arith, c.in_ok-header.ensures.announced.words)) in
    record {
      same = rw (← c.in_ok-header.ensures.reads.same, ← c.in_ok-records.ensures.reads.same, ← words.same, ← c.in_ok-r1.ensures.same, ← c.in_ok-r2.ensures.same);
      within = c.in_ok-r2.ensures.within;
    }
