-- A copy into the part of the buffer from the end on is a run of stores there.
use Rattle.std.proofs.Common.{◌≡◌, ◌+◌, ◌≤◌, ℕ, List, append_assoc, length, refl, ap, ◌∙◌, arith}
use borrow.Rule.Slice.PartMut.{put_mid}
use Rattle.std.proofs.Math.Seq.{sets, sets-eq, length-sets, drop-drop}
use Rattle.table_text.proofs.page.Page.write.Goals as goal

copied : (text old new : List ℕ) (at size : ℕ) → new ≡ text → size ≡ length text → at + length text ≤ length old → put_mid at size old new ≡ sets old at text
copied text old new at size same long room = rw (same, long, sets-eq text old at room, drop-drop, append_assoc)

pub returns : goal.returns
returns c =
    let stored = copied c.args.text.now c.args.self.now.bytes.now c.copy_from_slice.new.self c.args.self.now.end _ c.copy_from_slice.ensures.after (omega arith) c.requires in
    record { same_loan = refl; bytes = stored; end = refl; size = ap length stored ∙ length-sets c.args.self.now.bytes.now c.args.self.now.end c.args.text.now }
