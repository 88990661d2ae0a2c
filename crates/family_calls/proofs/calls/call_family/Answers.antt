-- Selection chose among the family's records, and the call on what it chose is the family's.
use mathlib.Core.List.{List}
use mathlib.Core.Path.{◌≡◌, refl, sym, ◌∙◌, subst}
use Prim.Native.Nat.{ℕ, ◌≤◌}
use Rattle.std.proofs.Common.{take}
use Rattle.codec_records.specs.Records.{Holds, room_of}
use Rattle.codec_records.specs.declared.records.Record.{Record}
use Rattle.codec_caller.specs.Settling.{Chose, Selected}
use Rattle.family_text.specs.Shown.{family_in}
use Rattle.family_calls.specs.Ledgers.{records_of}
use Rattle.family_calls.proofs.Ledgers.{kept_for, answers_for}
use Rattle.family_calls.proofs.Records.{gathered}
use Rattle.family_calls.proofs.Short.{answer_short}
use Rattle.family_calls.proofs.calls.call_family.Goals as goal
use Rattle.family_calls.proofs.calls.call_family.Goals.{After-select_fates-chosen}

-- what selection chose among the family's records
abbrev chosen : (c : After-select_fates-chosen) → Chose c.args.family.now.header.options c.select_fates-chosen.result
chosen c =
    let family = c.args.family.now in
    let n = family.header.records in
    let columns = c.gather-gathered.result in
    let answer = c.select_fates-chosen.result in
    let records : List Record = records_of family.records.now n in
    let held = gathered columns family.records.now n family.counted c.gather-gathered.ensures.held in
    let given : columns.given ≡ n = c.gather-gathered.ensures.given in
    let holds = subst (λ (m : ℕ). m ≤ 512 → Holds columns m records) (sym given) held.1 in
    let as_given : answer.given ≡ columns.given = c.select_fates-chosen.ensures.given in
    record {
      records = records;
      ops = family.words.now;
      size = held.0 ∙ sym (as_given ∙ given);
      selected = subst (λ (m : ℕ). Selected family.header.options m records family.words.now answer.decision (take (room_of m) answer.fates)) (sym as_given) (c.select_fates-chosen.ensures.selected records holds);
    }

pub consensus_reads_sampled-answer-requires : goal.consensus_reads_sampled-answer-requires
consensus_reads_sampled-answer-requires c = chosen (goal.at.consensus_reads_sampled-answer-requires c).After-select_fates-chosen

pub returns-clause-handed_on : goal.returns-clause-handed_on
returns-clause-handed_on c =
    let family = chosen (goal.at.returns-clause-handed_on c).After-select_fates-chosen in
    let called = c.consensus_reads_sampled-answer.ensures.called family.records family.ops family.size family.selected in
    record {
      kept = rw (← c.unwrap_or-sample.ensures) (kept_for (family_in c.args.family.now) c.unwrap_or-sample.result _ _ _ _ _ _ c.lend-lent.ensures called);
      sample = refl;
    }

pub returns-clause-short : goal.returns-clause-short
returns-clause-short c =
    let family = chosen (goal.at.returns-clause-short c).After-select_fates-chosen in
    answer_short _ _ _ _ c.consensus_reads_sampled-answer.result _ (c.consensus_reads_sampled-answer.ensures.called family.records family.ops family.size family.selected)

pub returns-clause-answered : goal.returns-clause-answered
returns-clause-answered c =
    let family = chosen (goal.at.returns-clause-answered c).After-select_fates-chosen in
    let called = c.consensus_reads_sampled-answer.ensures.called family.records family.ops family.size family.selected in
    rw (← c.unwrap_or-sample.ensures) (answers_for (family_in c.args.family.now) c.unwrap_or-sample.result _ _ _ _ c.consensus_reads_sampled-answer.result _ c.lend-lent.ensures called)
