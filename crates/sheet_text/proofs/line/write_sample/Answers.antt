-- No line without a family; else nine numbers, in at most 118 bytes.
use Rattle.std.proofs.Common.{rules, ◌≡◌, ℕ, [], ◌∷◌, length, ap, arith}
use Rattle.table_text.proofs.Pages.{appends_none}
use Rattle.codec_stats.specs.Ledger.{filtered, millionths}
use Rattle.codec_stats.specs.declared.ledger.Ledger.{Ledger}
use Rattle.sheet_text.specs.SheetText.{numbers_text, sample_line}
use Rattle.sheet_text.proofs.Lines.{no_line, one_line}
use Rattle.sheet_text.proofs.Within.{line_within}
use Rattle.sheet_text.proofs.line.write_sample.Goals as goal

-- the figures are the line's
line : (sample : ℕ) (l : Ledger) (filtered_figure millionths_figure : ℕ) → filtered_figure ≡ filtered l → millionths_figure ≡ millionths l
    → numbers_text (sample ∷ l.families ∷ l.records ∷ filtered_figure ∷ l.duplexes ∷ l.bases ∷ l.duplex_bases ∷ l.disagreements ∷ millionths_figure ∷ []) ≡ sample_line sample l
unfolding sample_line
line sample l filtered_figure millionths_figure e f = rw (e, f)

pub returns-then-ledger-eq0-clause-appended : goal.returns-then-ledger-eq0-clause-appended
returns-then-ledger-eq0-clause-appended c = rw (no_line c.args.sample c.args.ledger c.if-ledger-eq0.true) (appends_none c.args.page.now)

pub write_numbers-requires : goal.write_numbers-requires
write_numbers-requires c =
    let line = line c.args.sample c.args.ledger _ _ c.filtered-filtered.ensures c.millionths-millionths.ensures in
    omega (arith, ap length line, line_within c.args.ledger c.requires.within_limits c.args.sample c.requires.sample_in_bounds (search rules))

pub returns-clause-appended : goal.returns-clause-appended
returns-clause-appended c =
    let line = line c.args.sample c.args.ledger _ _ c.filtered-filtered.ensures c.millionths-millionths.ensures in
    rw (one_line c.args.sample c.args.ledger c.if-ledger-eq0.false, ← line) c.write_numbers.ensures

pub returns-clause-upper_bound : goal.returns-clause-upper_bound
returns-clause-upper_bound c =
    let line = line c.args.sample c.args.ledger _ _ c.filtered-filtered.ensures c.millionths-millionths.ensures in
    omega (arith, ap length line, line_within c.args.ledger c.requires.within_limits c.args.sample c.requires.sample_in_bounds (search rules))
