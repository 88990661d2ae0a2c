-- Where the next window begins.
use Rattle.std.specs.Prelude.{Bool, cond, ℕ, ltb, Result, Ok, Err}
use Rattle.line_text.specs.declared.lines.Stop.{Stop}
use Rattle.line_text.specs.declared.lines.Stop.TheVariants as stops
use Rattle.ledger_lines.specs.declared.settings.Handed.{Handed}
use Rattle.family_windows.specs.declared.windows.Malformed.{Malformed}

-- a line at a place is malformed
abbrev pub malformed : ℕ → Result (Handed × ℕ) Malformed
malformed place = Err (record { place = place })

-- the next window begins where the family begins, unless this one does too
abbrev pub beginning : Result (Handed × ℕ) Stop → ℕ → Result (Handed × ℕ) Malformed
beginning (Ok (handed, family)) place = cond (ltb 0 family) (Ok (handed, family)) (malformed place)
beginning (Err stop) place = malformed place

-- a line that is cut is malformed where the file ends
unfoldable pub next_window : Result (Handed × ℕ) Stop → Stop → Bool → Result (Handed × ℕ) Malformed
next_window begun (stops.Malformed place) ends = malformed place
next_window begun (stops.Cut place) ends = cond ends (malformed place) (beginning begun place)
