-- The column holds the fates after steps 1 and 2, of which the refusals speak.
use Rattle.std.proofs.Common.{◌≡◌, ◌∙◌, sym, length}
use Rattle.lists.proofs.Tabulate.{length-tabulate}
use Rattle.lists.proofs.Written.{written-whole}
use Rattle.codec_pairing.specs.Family.{fate_of}
use Rattle.codec_select.specs.Alignments.{alignments_in}
use Rattle.codec_select.specs.Steps.{fates_of, selected}
use Rattle.codec_select.proofs.Admitting.{Alike, entered_admissible}
use Rattle.codec_select.proofs.steps.select_family.Goals as goal
use Rattle.codec_select.proofs.steps.select_family.Goals.{After-write_fates}

fates_are : (c : After-write_fates) → let f = c.args.family.now in c.write_fates.new.fates ≡ fates_of f.flags.now f.names.now f.verdicts.now
fates_are c =
    let f = c.args.family.now in
    c.write_fates.ensures ∙ written-whole (fates_of f.flags.now f.names.now f.verdicts.now) c.args.fates.now (length-tabulate (fate_of f) (length f.flags.now) ∙ sym c.requires)

alike : (c : After-write_fates) → Alike (alignments_in c.args.family.now)
alike c =
    let given = c.args.family.now.alike in
    record { as_many_clipped = given.as_many_clipped; as_many_positions = given.as_many_positions; as_many_starts = given.as_many_starts; as_many_counts = given.as_many_counts }

pub returns-in-Err : goal.returns-in-Err
unfolding selected
returns-in-Err c =
    let fates = fates_are (goal.at.returns-in-Err c).After-write_fates in
    rw (sym (rw fates at c.first_refusal.ensures) ∙ c.in-Err.is)
    (record { decision_is = c.conclude.ensures.value; fates_are = fates; r1_is = c.conclude.ensures.r1; r2_is = c.conclude.ensures.r2 })

pub from_sides-requires-clause-entered_admissible : goal.from_sides-requires-clause-entered_admissible
from_sides-requires-clause-entered_admissible c =
    let at = (goal.at.from_sides-requires-clause-entered_admissible c).After-write_fates in
    let none = sym (rw (fates_are at) at c.first_refusal.ensures) ∙ c.in_default.is in
    entered_admissible _ _ _ c.args.options.min_duplex_length c.args.family.now.given (alike at) none

pub returns : goal.returns
unfolding selected
returns c =
    let fates = fates_are (goal.at.returns c).After-write_fates in
    let none = sym (rw fates at c.first_refusal.ensures) ∙ c.in_default.is in
    rw none (rw fates at c.from_sides.ensures)
