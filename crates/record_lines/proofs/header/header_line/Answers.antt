-- The values of a well-formed line fit its layout.
use Rattle.std.proofs.Common.{sym}
use Rattle.line_text.proofs.Fits.{fit_line}
use Rattle.record_lines.specs.Header.{header_of}
use Rattle.record_lines.proofs.header.header_line.Goals as goal

pub returns-in_err-values : goal.returns-in_err-values
unfolding header_of
returns-in_err-values c = rw (c.from_residual.ensures, ← c.in_err-values.ensures)

pub header_from-requires : goal.header_from-requires
header_from-requires c = (fit_line _ _ _ _ (sym c.in_ok-values.ensures)).each

pub returns : goal.returns
unfolding header_of
returns c = rw (c.header_from.ensures, ← c.in_ok-values.ensures)
