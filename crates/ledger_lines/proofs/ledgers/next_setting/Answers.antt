-- By the tests: a line that is not ended, another line, a malformed one, one that sets something.
use Rattle.std.proofs.Common.{◌≡◌, rules, sym, ◌∙◌, ap, Some, Err}
use Rattle.line_text.proofs.Readings.{ok_or_err, ok_or_ok}
use Rattle.ledger_lines.proofs.Figures.{setting_last, setting_other, setting_wrong, setting_said}
use Rattle.ledger_lines.proofs.ledgers.next_setting.Goals as goal

pub returns-in_default : goal.returns-in_default
returns-in_default c = setting_last _ _ c.requires _ c.in_default.ensures.reads

pub returns-in_default-read_setting : goal.returns-in_default-read_setting
returns-in_default-read_setting c = setting_other _ _ c.requires _ _ c.in-Ok.ensures.reads (sym c.in_default-read_setting.ensures.value)

pub returns-in_err-setting : goal.returns-in_err-setting
returns-in_err-setting c =
    let is : c.from_residual.result ≡ Err c.in_err-setting.field-0.0 = search rules in
    let found = ok_or_err _ _ _ c.in_err-setting.ensures.value in
    rw (is, found.1) (setting_wrong _ _ c.requires _ _ c.in-Ok.ensures.reads (sym c.in-Some.ensures.value ∙ ap Some found.0))

pub returns : goal.returns
returns c = let found = ok_or_ok _ _ _ c.in_ok-setting.ensures.value in
    setting_said _ _ c.requires _ _ c.in-Ok.ensures.reads c.in-Ok.ensures.onward _ (rw found at c.in-Some.ensures.settable) (sym c.in-Some.ensures.value ∙ ap Some found)
