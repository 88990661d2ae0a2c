-- By the tests: a line that is not ended, one that says nothing, one that says something.
use Rattle.std.proofs.Common.{◌≡◌, rules, Err}
use Rattle.line_text.specs.Reading.{says, says_nothing}
use Rattle.line_text.proofs.Readings.{line_unended, ok_or_err, ok_or_ok}
use Rattle.line_text.proofs.lines.next_line.Goals as goal

pub returns-in_err-line : goal.returns-in_err-line
returns-in_err-line g c =
    let is : c.from_residual.result ≡ Err c.in_err-line.field-0.0 = search rules in
    rw is (line_unended (goal.F-post g c.args.read) _ _ _ c.in_err-line.ensures.reads)

pub returns-in_err-said : goal.returns-in_err-said
returns-in_err-said g c =
    let is : c.from_residual-in_err-said.result ≡ Err c.in_err-said.field-0.0 = search rules in
    let found = ok_or_err _ _ _ c.in_err-said.ensures.value in
    rw (is, found.1) (says_nothing c.in_ok-line.ensures.reads (rw found.0 at c.read.ensures))

pub returns : goal.returns
returns g c = says c.in_ok-line.ensures.reads (rw (ok_or_ok _ _ _ c.in_ok-said.ensures.value) at c.read.ensures)
