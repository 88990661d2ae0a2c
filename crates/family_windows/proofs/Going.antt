-- Laws of what is handed on from family to family.
use Rattle.ledger_lines.specs.declared.settings.Handed.{Handed}
use Rattle.family_text.specs.Family.{Family}
use Rattle.family_windows.specs.Going.{Goes, here, figures, end, family}
use Rattle.table_text.specs.Parts.{Parts}

-- two ways, one after the other
pub goes_on : {HandsOn : Family → Handed → Handed → Type 0} {a : Handed} {p : Parts} {b : Handed} {q : Parts} {c : Handed} {r : Parts} → Goes HandsOn a p b q → Goes HandsOn b q c r → Goes HandsOn a p c r
goes_on first here = first
goes_on first (end more e) = end (goes_on first more) e
goes_on first (figures more e) = figures (goes_on first more) e
goes_on first (family more e on) = family (goes_on first more) e on
