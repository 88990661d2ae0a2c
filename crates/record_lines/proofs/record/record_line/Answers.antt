-- The values of a well-formed line fit its layout.
use Rattle.std.proofs.Common.{sym}
use Rattle.line_text.proofs.Fits.{fit_line}
use Rattle.record_lines.specs.Record.{record_of}
use Rattle.record_lines.proofs.record.record_line.Goals as goal

pub returns-in_err-values : goal.returns-in_err-values
unfolding record_of
returns-in_err-values c = rw (c.from_residual.ensures, ← c.in_err-values.ensures)

pub record_from-requires : goal.record_from-requires
record_from-requires c = (fit_line _ _ _ _ (sym c.in_ok-values.ensures)).each

pub returns : goal.returns
unfolding record_of
returns c = rw (c.record_from.ensures, ← c.in_ok-values.ensures)
