-- Laws of the lines in front of a family.
use Rattle.std.proofs.Common.{◌≡◌, ◌<◌, ◌≤◌, ℕ, List, length, Some, None, Ok, Err}
use Rattle.std.specs.Borrow.{Bor}
use Rattle.line_text.specs.Reading.{wrong, lines_from, ReadsLine}
use Rattle.line_text.specs.declared.lines.Stop.{Stop}
use Rattle.line_text.specs.declared.lines.Stop.TheVariants.{Malformed}
use Rattle.line_text.proofs.Readings.{line_ended, line_last}
use Rattle.ledger_lines.specs.Ledgers.{by_setting, ledgers_from, NextSetting}
use Rattle.ledger_lines.specs.Settings.{Settable, set_by, setting_of}
use Rattle.ledger_lines.specs.declared.settings.Handed.{Handed}
use Rattle.ledger_lines.specs.declared.settings.Setting.{Setting}

module _ (text : List ℕ) (at : ℕ) (inside : at ≤ length text) where
  -- a line that is not ended sets nothing
  pub setting_last : (stop : Stop) → ReadsLine text at (Err stop) → NextSetting text at (Ok None)
  unfolding ledgers_from
  setting_last stop read = let found = line_last text at stop read in record { said = λ h. rw found.1; within = inside }

  module _ (line : Bor (List ℕ)) (after : ℕ) (read : ReadsLine text at (Ok (line, after))) where
    setting_line : (h : Handed) → ledgers_from h (lines_from text at) ≡ by_setting (setting_of line.now) (λ setting. ledgers_from (set_by h setting) (lines_from text after)) (Err (wrong (lines_from text at))) (Ok (h, lines_from text at))
    unfolding ledgers_from
    setting_line h = rw (line_ended text at line after read)

    pub setting_other : setting_of line.now ≡ None → NextSetting text at (Ok None)
    setting_other e = record { said = λ h. rw e at (setting_line h); within = inside }

    pub setting_wrong : setting_of line.now ≡ Some None → NextSetting text at (Err (Malformed at))
    setting_wrong e = record { said = λ h. rw e at (setting_line h); within = inside }

    pub setting_said : at < after → (setting : Setting) → Settable setting → setting_of line.now ≡ Some (Some setting) → NextSetting text at (Ok (Some (setting, after)))
    setting_said onward setting settable e = record { said = λ h. rw e at (setting_line h); within = (settable, onward, read.within) }
