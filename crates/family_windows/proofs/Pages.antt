-- Laws of a page that is written on.
use Rattle.std.proofs.Common.{◌≡◌, List, [], ℕ, refl}
use Rattle.table_text.proofs.Pages.{appends_none}
use Rattle.table_text.specs.declared.page.Page.{Page}
use Rattle.family_windows.specs.Pages.{Adds}

-- a page stays as it is
pub adds_nothing : (page : Page) → Adds (λ (text : List ℕ). text ≡ []) page page
adds_nothing page = record { text = []; appended = appends_none page; of_kind = refl }
