-- Laws of texts that are written one after another.
use Rattle.std.proofs.Common.{◌≡◌, ◌+◌, ◌*◌, ◌≤◌, ℕ, List, arith}
use Rattle.std.proofs.Math.Numerals.{add-one}
use Rattle.table_text.specs.Page.{Appends}
use Rattle.table_text.specs.Texts.{texts}
use Rattle.table_text.specs.declared.page.Page.{Page}
use Rattle.table_text.proofs.Pages.{appends_none, appends_then}

-- the texts of the first i places are written, each at most so wide
pub record Appending (at : ℕ → List ℕ) (width : ℕ) (old new : Page) (i : ℕ) : Type 0 where
  pub appended : Appends (texts at i) old new
  pub within : new.end ≤ old.end + width * i

module _ (at : ℕ → List ℕ) (width : ℕ) (old : Page) where
  pub appending_none : Appending at width old old 0
  unfolding texts
  appending_none = record { appended = appends_none old; within = omega arith }

  -- the text of the next place
  pub appending_more : {mid new : Page} {i : ℕ} → Appending at width old mid i → Appends (at i) mid new → new.end ≤ mid.end + width → Appending at width old new (i + 1)
  unfolding texts
  appending_more {i = i} before next short =
      record {
        appended = rw add-one (appends_then (texts at i) (at i) before.appended next);
        within = omega (arith, before.within);
      }

-- the last place is written
pub appending_all : (at : ℕ → List ℕ) (width : ℕ) {old new : Page} {i n : ℕ} → Appending at width old new i → i ≤ n → n ≤ i → Appends (texts at n) old new
appending_all at width {i = i} {n = n} appending most least = let all : i ≡ n = omega arith in rw all at appending.appended
