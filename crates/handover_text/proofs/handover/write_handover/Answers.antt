-- Nothing of a family that was called; else how it ended, and the list cut to its length.
use Rattle.std.proofs.Common.{rules}
use Rattle.table_text.proofs.Pages.{appends_none, appends_then}
use Rattle.answer_text.proofs.Listings.{texts-cut}
use Rattle.handover_text.specs.Handover.{rejected_text, rejections_text, handover_text}
use Rattle.handover_text.proofs.Names.{uncalled}
use Rattle.handover_text.proofs.handover.write_handover.Goals as goal

pub returns-in-Called-clause-appended : goal.returns-in-Called-clause-appended
unfolding handover_text
returns-in-Called-clause-appended c = rw c.in-Called.is (appends_none c.args.page.now)

pub returns-clause-appended : goal.returns-clause-appended
unfolding handover_text rejections_text
returns-clause-appended c =
    let args = c.args in
    let list = rw (texts-cut (rejected_text args.family) args.answer.listed args.records.now args.reasons.now c.requires.listing.enough_records) at c.write_rejections.ensures.appended in
    rw (uncalled args.answer.ending c.in_default.not-Called) (search (rules, appends_then))
