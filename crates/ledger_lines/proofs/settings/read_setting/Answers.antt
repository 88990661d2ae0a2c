-- The tags in turn.
use Rattle.ledger_lines.specs.Settings.{setting_of}
use Rattle.ledger_lines.proofs.settings.read_setting.Goals as goal

pub returns-in-Some-clause-value : goal.returns-in-Some-clause-value
unfolding setting_of
returns-in-Some-clause-value c = rw (← c.in-Some.ensures, c.run_at.ensures)

pub returns-in-Some-read_tag-clause-value : goal.returns-in-Some-read_tag-clause-value
unfolding setting_of
returns-in-Some-read_tag-clause-value c = rw (← c.in_default.ensures, ← c.in-Some-read_tag.ensures, c.name_at.ensures)

pub returns-in-Some-read_tag-2-clause-value : goal.returns-in-Some-read_tag-2-clause-value
unfolding setting_of
returns-in-Some-read_tag-2-clause-value c = rw (← c.in_default.ensures, ← c.in_default-read_tag.ensures, ← c.in-Some-read_tag-2.ensures, c.sample_at.ensures.value)

pub returns-clause-value : goal.returns-clause-value
unfolding setting_of
returns-clause-value c = rw (← c.in_default.ensures, ← c.in_default-read_tag.ensures, ← c.in_default-read_tag-2.ensures)
