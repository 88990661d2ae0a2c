-- A page that is written on and written out.
use Rattle.std.specs.Prelude.{List, ◌≡◌, ℕ, length}
use Rattle.table_text.specs.Page.{Appends}
use Rattle.table_text.specs.declared.page.Page.{Page}

-- whatever it has, its buffer is the same, and as long
pub record KeepsBuffer (old new : Page) : Type 0 where
  pub same_loan : new.bytes.ghost_name ≡ old.bytes.ghost_name
  pub size : length new.bytes.now ≡ length old.bytes.now

-- a text of some kind is written behind what it had
pub record Adds (OfKind : List ℕ → Type 0) (old new : Page) : Type 0 where
  pub text : List ℕ
  pub appended : Appends text old new
  pub of_kind : OfKind text
