-- The parts of the call in turn; what they come to is in proofs/Parts.antt, for every family of which selection chose so.
use Rattle.std.proofs.Common.{ℕ, List, take, refl}
use Rattle.codec_records.specs.Records.{room_of}
use Rattle.codec_records.specs.declared.records.Record.{Record}
use Rattle.codec_family.specs.Lent.{lent_in}
use Rattle.codec_caller.specs.Settling.{Selected}
use Rattle.codec_caller.proofs.Parts.{Given, family-refused, lends, frame_fits, few_own, are_fates, writable, addable, family_answered}
use Rattle.codec_caller.proofs.family.consensus_reads_raw.Goals as goal
use Rattle.codec_caller.proofs.family.consensus_reads_raw.Goals.{After-refuse}

module _ (c : After-refuse) where
  abbrev given : Given
  given =
      record {
        len = c.args.chosen.given;
        options = c.args.options;
        strands = c.args.strands.now;
        lent = lent_in c.args.lent.now;
        ledger = c.args.ledger;
        decision = c.args.chosen.decision;
        own = take c.room-n.result c.args.chosen.fates;
        refusal = c.refuse.result;
        refuses = rw c.room.ensures at c.refuse.ensures;
      }

  selected : (rs : List Record) (words : List ℕ) → Selected c.args.options c.args.chosen.given rs words c.args.chosen.decision (take (room_of c.args.chosen.given) c.args.chosen.fates)
      → Selected c.args.options c.args.chosen.given rs words c.args.chosen.decision (take c.room-n.result c.args.chosen.fates)
  selected rs words chosen = rw c.room-n.ensures.value chosen

  -- a family of which selection chose so
  own : Selected c.args.options c.args.chosen.given c.requires.records c.requires.ops c.args.chosen.decision (take c.room-n.result c.args.chosen.fates)
  own = selected c.requires.records c.requires.ops c.requires.selected

pub returns-in-Err-clause-called : goal.returns-in-Err-clause-called
returns-in-Err-clause-called c =
    let at = (goal.at.returns-in-Err-clause-called c).After-refuse in
    λ rs words size chosen. family-refused (given at) rs words size (selected at rs words chosen) _ c.in-Err.is

pub end_family-verdict-requires : goal.end_family-verdict-requires
end_family-verdict-requires c =
    let at = (goal.at.end_family-verdict-requires c).After-refuse in
    frame_fits (given at) c.requires.records c.requires.ops c.requires.size (own at) c.in_default.is

pub settle_family-settlement-requires-clause-are_fates : goal.settle_family-settlement-requires-clause-are_fates
settle_family-settlement-requires-clause-are_fates c =
    let at = (goal.at.settle_family-settlement-requires-clause-are_fates c).After-refuse in
    are_fates (given at) c.requires.records c.requires.ops c.requires.size (own at) c.in_default.is c.end_family-verdict.result c.end_family-verdict.ensures

pub settle_family-settlement-requires-clause-fates_len_bound : goal.settle_family-settlement-requires-clause-fates_len_bound
settle_family-settlement-requires-clause-fates_len_bound c =
    let at = (goal.at.settle_family-settlement-requires-clause-fates_len_bound c).After-refuse in
    let lent = lends (given at) c.requires.records c.requires.ops c.requires.size (own at) c.in_default.is in
    (few_own (given at) c.requires.records c.requires.ops c.requires.size (own at) c.in_default.is c.end_family-verdict.result c.end_family-verdict.ensures, lent.records, lent.reasons, lent.marks)

pub write_columns-requires : goal.write_columns-requires
write_columns-requires c =
    let at = (goal.at.write_columns-requires c).After-refuse in
    λ e. rw c.frame_of.ensures
    (writable (given at) c.requires.records c.requires.ops c.requires.size (own at) c.in_default.is c.end_family-verdict.result c.end_family-verdict.ensures _ refl refl refl e)

pub add-requires : goal.add-requires
add-requires c =
    let at = (goal.at.add-requires c).After-refuse in
    addable (given at) c.requires.records c.requires.ops c.requires.size (own at) c.in_default.is c.end_family-verdict.result c.end_family-verdict.ensures
    c.settle_family-settlement.result _ _ _ c.settle_family-settlement.ensures

pub returns-clause-called : goal.returns-clause-called
returns-clause-called c =
    let at = (goal.at.returns-clause-called c).After-refuse in
    λ rs words size chosen.
    family_answered (given at) rs words size (selected at rs words chosen) c.in_default.is c.end_family-verdict.result c.end_family-verdict.ensures
    c.settle_family-settlement.result _ _ _ c.settle_family-settlement.ensures _ (rw c.frame_of.ensures at c.write_columns.ensures.written) _ refl refl c.add.ensures
