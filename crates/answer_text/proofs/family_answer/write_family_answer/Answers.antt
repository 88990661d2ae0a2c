-- How it ends, the lists and the columns where it has them, the ledger.
use Rattle.std.proofs.Common.{◌≡◌, ◌++◌, List, ℕ, refl, append_assoc, append-nil, sym}
use Rattle.caller.specs.declared.refusal.Refusal.{Refusal}
use Rattle.codec_family.specs.Call.{Lent}
use Rattle.codec_family.specs.declared.ending.Ending.{Ending}
use Rattle.codec_family.specs.declared.ending.Ending.TheVariants.{Called, Empty, NoStrand, Rejected, Disagreeing, Refused}
use Rattle.table_text.specs.Page.{Appends}
use Rattle.table_text.proofs.Pages.{appends_none, appends_then}
use Rattle.answer_text.specs.FamilyText.{ending_text, lists_text, columns_text, listed_unless_refused, called_text, ledger_text, family_text}
use Rattle.answer_text.specs.Left.{left_shown}
use Rattle.answer_text.proofs.family_answer.write_family_answer.Goals as goal
use Rattle.answer_text.proofs.family_answer.write_family_answer.Goals.{in-Refused, in-Called, in_default}

-- what stands between the ending and the ledger
abbrev between : Ending → ℕ → Lent → List ℕ
between e listed lent = listed_unless_refused e listed lent ++ called_text e lent

-- of a family that is neither refused nor called the lists alone
lists_alone : (e : Ending) (listed : ℕ) (lent : Lent) → ((refusal : Refusal) → e ≡ Refused refusal → ⊥) → ((length : ℕ) → e ≡ Called length → ⊥) → lists_text listed lent ≡ between e listed lent
lists_alone (Called length) listed lent taken called = absurd (called length refl)
lists_alone Empty listed lent taken called = sym (append-nil _)
lists_alone NoStrand listed lent taken called = sym (append-nil _)
lists_alone (Rejected reason) listed lent taken called = sym (append-nil _)
lists_alone (Disagreeing limit) listed lent taken called = sym (append-nil _)
lists_alone (Refused refusal) listed lent taken called = absurd (taken refusal refl)

pub returns-clause-appended : goal.returns-clause-appended
unfolding family_text
returns-clause-appended c =
    let answer = c.args.answer in
    let lent = left_shown c.args.left.now in
    let middle : Appends (between answer.ending answer.listed lent) c.write_ending.new.page c.match-answer.page =
    elim c.match-answer.branch [
      | in-Refused w ↦ rw (w.in-Refused.is, w.page-is) (appends_none _)
      | in-Called w ↦ rw (w.in-Called.is, w.page-is) (appends_then (lists_text answer.listed lent) (columns_text w.in-Called.length lent.duplex lent.r1 lent.r2) w.write_lists.ensures.appended w.write_columns.ensures.appended)
      | in_default w ↦ rw (w.page-is, ← lists_alone answer.ending answer.listed lent w.in_default.not-Refused w.in_default.not-Called) w.write_lists-in_default.ensures.appended
    ] in
    let rest = appends_then (between answer.ending answer.listed lent) (ledger_text answer.ledger) middle c.write_ledger.ensures.appended in
    appends_then (ending_text answer.ending) _ c.write_ending.ensures.appended (rw append_assoc at rest)
