-- The words, and then the line's number behind them.
use Rattle.std.proofs.Common.{◌≡◌, ◌^◌, ◌≤◌, ◌<◌, ℕ, List, [], ◌∷◌, ◌++◌, length, refl, rules, ◌∙◌, arith}
use Rattle.table_text.specs.Decimal.{last_digits, decimal}
use Rattle.table_text.specs.Duplex.{refusal_text}
use Rattle.table_text.specs.OutputTable.{number_text}
use Rattle.table_text.proofs.Pages.{appends_then, page_written}
use Rattle.table_text.proofs.Decimals.{length-number_text}
use Rattle.table_text.proofs.duplex.write_refusal.Goals as goal

-- `refused 13 `
words : List ℕ
words = 114 ∷ 101 ∷ 102 ∷ 117 ∷ 115 ∷ 101 ∷ 100 ∷ 32 ∷ 49 ∷ 51 ∷ 32 ∷ []

thirteen : decimal 13 ≡ 49 ∷ 51 ∷ []
unfolding decimal last_digits
thirteen = refl

refusal-text : (line : ℕ) → refusal_text 13 line ≡ words ++ number_text line 10
unfolding refusal_text number_text words
refusal-text line = rw thirteen

short : (n : ℕ) → n < 2 ^ 64 → length (number_text n 10) ≤ 21
short n h = length-number_text 19 n 10 (omega arith)

pub write_number-requires : goal.write_number-requires
write_number-requires c = omega (arith, short c.args.line c.ranges.line.fits)

pub returns-clause-value : goal.returns-clause-value
unfolding words
returns-clause-value c =
    (page_written (words ++ number_text c.args.line 10) c.new-page.ensures (appends_then words (number_text c.args.line 10) c.write.ensures c.write_number.ensures)).0 ∙ rw (refusal-text c.args.line)

pub returns-clause-output_after : goal.returns-clause-output_after
unfolding words
returns-clause-output_after c =
    let whole = page_written (words ++ number_text c.args.line 10) c.new-page.ensures (appends_then words (number_text c.args.line 10) c.write.ensures c.write_number.ensures) in
    rw (refusal-text c.args.line) (search rules)
