-- The 20 counts, the ten reasons among them.
use Rattle.std.proofs.Common.{rules, append_assoc, ◌≡◌, ◌∷◌, length}
use Rattle.codec_stats.specs.Counts.{counts_of}
use Rattle.codec_stats.specs.Ledger.{other_counts}
use Rattle.codec_stats.specs.declared.ledger.Ledger.{Ledger}
use Rattle.codec_stats.proofs.Counts.{reasons_back}
use Rattle.answer_text.specs.FamilyText.{ledger_text}
use Rattle.answer_text.proofs.family_answer.write_ledger.Goals as goal

counted : (l : Ledger) → length l.reasons ≡ 10 → counts_of l ≡ l.families ∷ other_counts l
unfolding counts_of
counted l ten = rw (reasons_back l ten, append_assoc)

pub returns-clause-appended : goal.returns-clause-appended
unfolding ledger_text
returns-clause-appended c =
    let ten : length c.args.ledger.reasons ≡ 10 = search rules in
    rw (← counted c.args.ledger ten, ← c.from.ensures) c.write_line.ensures.appended
