-- Document 01, 'A family': the fates of all its records, and how many have each.
use Rattle.std.specs.Prelude.{cond, List, map, ℕ, ◌≤◌, ◌<◌, eqb, length, get_or}
use Rattle.lists.specs.Tabulate.{tabulate}
use Rattle.lists.specs.Total.{total}
use Rattle.caller.specs.Fates.{used_number, first_fate, is_rejection, is_marked}

-- 'a reason that ends the family, no strand, or used where a duplex is called, falls on every record that has none yet'
unfoldable pub settled : (fate : ℕ) (fates : List ℕ) → List ℕ
settled fate fates = map (first_fate fate) fates

-- how many records have the fate
unfoldable pub with_fate : (fate : ℕ) (fates : List ℕ) → ℕ
with_fate fate fates = total (λ own. cond (eqb own fate) 1 0) fates

-- how many rejections, and how many of them are marked
unfoldable pub rejections : (fates : List ℕ) → ℕ
rejections fates = total (λ fate. cond (is_rejection fate) 1 0) fates

unfoldable pub marked_rejections : (fates : List ℕ) → ℕ
marked_rejections fates = total (λ fate. cond (is_marked fate) 1 0) fates

-- each is undecided, or one of the thirteen: 'ten reasons, passed over, no strand, used'
abbrev pub AreFates : List ℕ → Type 0
AreFates fates = (i : ℕ) → i < length fates → get_or fates i 0 ≤ used_number

-- for each fate how many records have it
abbrev pub fate_counts : List ℕ → List ℕ
fate_counts fates = tabulate (λ fate. with_fate fate fates) 14
