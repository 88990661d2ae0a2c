-- The promise on lists that the columns hold, from what their first places give.
use Rattle.std.proofs.Common.{take}
use Rattle.codec_records.specs.Records.{room_of}
use Rattle.codec_select.specs.Alignments.{alignments}
use Rattle.codec_select.specs.Steps.{CourseIn, selected}
use Rattle.record_selection.proofs.Answering.{into_records}
use Rattle.record_selection.proofs.Outcomes.{outcome-below}
use Rattle.record_selection.proofs.alone.select_records.Goals as goal
use Rattle.record_selection.proofs.alone.select_records.Goals.{After-select_family}

-- what the columns that are lent give
given : (c : After-select_family)
    → let columns = c.args.columns.now in
    let n = room_of columns.given in
    CourseIn (selected c.args.options columns.given (take n columns.names) (take n columns.verdicts) (take n columns.ranks) (alignments (take n columns.flags) (take n columns.clipped) (take n columns.positions) (take n columns.starts) (take n columns.counts) c.args.ops.now))
    c.select_family.result c.select_family.new.fates c.select_family.new.sides
given c =
    let lent = c.family.ensures in
    rw (lent.given_is, lent.names_are, lent.verdicts_are, lent.ranks_are, lent.flags_are, lent.clipped_are, lent.positions_are, lent.starts_are, lent.counts_are, lent.ops_are) at c.select_family.ensures

pub returns-clause-into : goal.returns-clause-into
returns-clause-into c = into_records c.args.options c.args.columns.now c.args.ops.now _ _ _ (given (goal.at.returns-clause-into c).After-select_family)

pub returns-clause-r1_below : goal.returns-clause-r1_below
returns-clause-r1_below c =
    let f = c.family.result in
    rw (← c.family.ensures.size, c.select_family.ensures.r1_is) (outcome-below c.args.options f.given f.names.now f.verdicts.now f.ranks.now _).0

pub returns-clause-r2_below : goal.returns-clause-r2_below
returns-clause-r2_below c =
    let f = c.family.result in
    rw (← c.family.ensures.size, c.select_family.ensures.r2_is) (outcome-below c.args.options f.given f.names.now f.verdicts.now f.ranks.now _).1
