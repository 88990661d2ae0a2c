-- Selection answers on what the columns hold, which are the family's records.
use Rattle.std.proofs.Common.{◌≡◌, ℕ, ◌≤◌, take, refl, sym, subst, arith}
use Rattle.std.proofs.lemmas.List.{take_all}
use Rattle.codec_records.specs.Records.{Holds}
use Rattle.select_table.proofs.selecting.SelectingService.answer.Goals as goal

pub returns-clause-written : goal.returns-clause-written
returns-clause-written c =
    let family = c.args.family.now in
    let n = family.header.records in
    let records = family.records.now in
    let columns = c.gather-columns.result in
    let given : columns.given ≡ n = c.gather-columns.ensures.given in
    let held : n ≤ 512 → Holds columns n records = λ few. rw (take_all n records (omega (arith, family.counted few))) at (c.gather-columns.ensures.held few) in
    record {
      text = _;
      appended = c.write_selection.ensures.appended;
      of_kind = record {
        selection = c.select_marked-selection.result;
        of_kind = rw given at (c.select_marked-selection.ensures records (subst (λ (m : ℕ). m ≤ 512 → Holds columns m records) (sym given) held));
        is_text = refl;
      };
    }
