-- The text form: any number of lines that set what is handed stand in front of a family.
use Rattle.std.specs.Prelude.{List, ℕ, ◌≡◌, ◌<◌, ◌≤◌, length, Option, Some, None, Result, Ok, Err}
use Rattle.table_text.specs.Parts.{Parts, last, ended}
use Rattle.line_text.specs.Reading.{Reading, wrong, lines_from, unread_in, stop_place}
use Rattle.line_text.specs.declared.lines.Stop.{Stop}
use Rattle.ledger_lines.specs.Settings.{Settable, set_by, setting_of}
use Rattle.ledger_lines.specs.declared.settings.Handed.{Handed}
use Rattle.ledger_lines.specs.declared.settings.Setting.{Setting}

abbrev pub by_setting : {A : Type 0} → Option (Option Setting) → (set : Setting → A) (malformed other : A) → A
by_setting (Some (Some setting)) set malformed other = set setting
by_setting (Some None) set malformed other = malformed
by_setting None set malformed other = other

-- up to the first line that is none of them
unfoldable pub ledgers_from : Handed → Parts → Reading Handed
ledgers_from h (last text) = Ok (h, last text)
ledgers_from h (ended text more) = by_setting (setting_of text) (λ setting. ledgers_from (set_by h setting) more) (Err (wrong (ended text more))) (Ok (h, ended text more))

-- what an answer says of the lines from a place on, whatever is handed
abbrev pub SettingSaid : List ℕ → ℕ → Result (Option (Setting × ℕ)) Stop → Handed → Type 0
SettingSaid text at (Ok (Some (setting, after))) h = ledgers_from h (lines_from text at) ≡ ledgers_from (set_by h setting) (lines_from text after)
SettingSaid text at (Ok None) h = ledgers_from h (lines_from text at) ≡ Ok (h, lines_from text at)
SettingSaid text at (Err stop) h = ledgers_from h (lines_from text at) ≡ Err (unread_in text stop)

-- a sample has a ledger, and each place is in the text
abbrev pub SettingWithin : ℕ → ℕ → Result (Option (Setting × ℕ)) Stop → Type 0
SettingWithin size at (Ok (Some (setting, after))) = Settable setting × (at < after) × (after ≤ size)
SettingWithin size at (Ok None) = at ≤ size
SettingWithin size at (Err stop) = stop_place stop ≤ size

pub record NextSetting (text : List ℕ) (at : ℕ) (r : Result (Option (Setting × ℕ)) Stop) : Type 0 where
  pub said : (h : Handed) → SettingSaid text at r h
  pub within : SettingWithin (length text) at r
