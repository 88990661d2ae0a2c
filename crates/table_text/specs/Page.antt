-- A text that is written into a lent buffer.
use Rattle.std.specs.Prelude.{List, ◌≡◌, ℕ, ◌+◌, ◌≤◌, length}
use Rattle.std.specs.Borrow.{MutBor}
use Rattle.std.proofs.lemmas.List.Edits.{sets}
use Rattle.table_text.specs.declared.page.Page.{Page}

-- nothing is written yet
pub record Blank (lent : MutBor (List ℕ)) (page : Page) : Type 0 where
  pub same_loan : page.bytes.ghost_name ≡ lent.ghost_name
  pub bytes : page.bytes.now ≡ lent.now
  pub size : length page.bytes.now ≡ length lent.now
  pub end : page.end ≡ 0

-- so many bytes are free
abbrev pub HasRoom : ℕ → Page → Type 0
HasRoom n page = page.end + n ≤ length page.bytes.now

-- a text is written behind the one that was there, and the other bytes are as they were
pub record Appends (text : List ℕ) (old new : Page) : Type 0 where
  pub same_loan : new.bytes.ghost_name ≡ old.bytes.ghost_name
  pub bytes : new.bytes.now ≡ sets old.bytes.now old.end text
  pub end : new.end ≡ old.end + length text
  pub size : length new.bytes.now ≡ length old.bytes.now
