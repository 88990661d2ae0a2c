use Rattle.record_selection.proofs.Answering.{marked_records}
use Rattle.record_selection.proofs.alone.select_marked.Goals as goal

pub returns : goal.returns
returns c = marked_records c.args.options c.args.columns.now c.args.ops.now _ c.select_records-decision.new.sides _ c.select_records-decision.ensures.into (rw (c.as_slice.ensures.records, c.room-n.ensures.value) at c.mark_words.ensures) (rw (c.as_slice-2.ensures.records, c.room-n.ensures.value) at c.mark_words-2.ensures)
