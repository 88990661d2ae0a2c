-- Laws of a text that is written into a lent buffer.
use Rattle.std.proofs.Common.{◌≡◌, ℕ, List, [], ◌∷◌, ◌++◌, length, ◌∙◌, refl, arith}
use Rattle.std.proofs.Math.ListN.{length-append}
use Rattle.std.specs.Borrow.{MutBor}
use Rattle.lists.specs.Written.{written}
use Rattle.lists.proofs.Sets.{sets_append, sets_written}
use Rattle.table_text.specs.Page.{Blank, Appends}
use Rattle.table_text.specs.declared.page.Page.{Page}

-- nothing is written
pub appends_none : (page : Page) → Appends [] page page
appends_none page = record { same_loan = refl; bytes = refl; end = omega arith; size = refl }

-- a second text behind the first
pub appends_then : (text more : List ℕ) {old mid new : Page} → Appends text old mid → Appends more mid new → Appends (text ++ more) old new
appends_then text more {old} first second =
    record {
      same_loan = second.same_loan ∙ first.same_loan;
      bytes = second.bytes ∙ rw (first.bytes, first.end) (sets_append old.bytes.now old.end text more);
      end = omega (arith, length-append text more);
      size = second.size ∙ first.size;
    }

-- a text behind a byte
pub appends_after : (byte : ℕ) (text : List ℕ) {old mid new : Page} → Appends (byte ∷ []) old mid → Appends text mid new → Appends (byte ∷ text) old new
appends_after byte text = appends_then (byte ∷ []) text

-- a text on a blank page stands at the front of the lent buffer
pub page_written : (text : List ℕ) {lent : MutBor (List ℕ)} {blank page : Page} → Blank lent blank → Appends text blank page
    → (page.end ≡ length text) × (page.bytes.now ≡ written text lent.now)
page_written text {lent} {blank} {page} empty appended = (
  omega (arith, appended.end, empty.end),
  appended.bytes ∙ rw (empty.bytes, empty.end) (sets_written text lent.now (omega (arith, page.within, appended.end, appended.size, empty.end, empty.size))),
)
