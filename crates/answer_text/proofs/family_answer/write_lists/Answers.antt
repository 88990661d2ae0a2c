use Rattle.std.proofs.Common.{rules}
use Rattle.table_text.proofs.Pages.{appends_then}
use Rattle.answer_text.specs.FamilyText.{listed_text, listings_text, list_text}
use Rattle.answer_text.proofs.Listings.{texts-cut}
use Rattle.answer_text.proofs.family_answer.write_lists.Goals as goal

pub returns-clause-appended : goal.returns-clause-appended
unfolding list_text listings_text
returns-clause-appended c =
    let left = c.args.left.now in
    let list = rw (texts-cut listed_text c.args.listed left.listed.now left.reasons.now c.requires.records) at c.write_list.ensures.appended in
    search (rules, appends_then)
