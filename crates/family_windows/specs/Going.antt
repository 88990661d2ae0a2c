-- The text form: 'a list of family calls that share one ledger, in order'; and the ledgers of the samples that they name.
use Rattle.std.specs.Prelude.{Ok, ◌≡◌}
use Rattle.ledger_lines.specs.Ledgers.{ledgers_from}
use Rattle.ledger_lines.specs.declared.settings.Handed.{Handed}
use Rattle.family_text.specs.Family.{Family, call, no_more, call_of}
use Rattle.table_text.specs.Parts.{Parts}

-- from what is handed and the lines of a text to what is handed later and the lines left: a line in front of a family sets it, a family hands it on
pub data Goes (HandsOn : Family → Handed → Handed → Type 0) (first : Handed) (text : Parts) : Handed → Parts → Type 0 where
  here : Goes HandsOn first text first text
  end : {before after : Handed} {lines rest : Parts} → Goes HandsOn first text before lines → call_of before lines ≡ Ok (no_more after, rest) → Goes HandsOn first text after rest
  figures : {before after : Handed} {lines rest : Parts} → Goes HandsOn first text before lines → ledgers_from before lines ≡ Ok (after, rest) → Goes HandsOn first text after rest
  family : {before handed after : Handed} {f : Family} {lines rest : Parts} → Goes HandsOn first text before lines → call_of before lines ≡ Ok (call handed f, rest) → HandsOn f handed after → Goes HandsOn first text after rest
