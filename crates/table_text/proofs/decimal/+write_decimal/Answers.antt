-- By recursion on the number without its last digit.
use Rattle.std.proofs.Common.{◌≡◌, ◌+◌, ◌≤◌, ◌<◌, length, ℕ, ◌/◌, ◌%◌, ◌∙◌, refl, [], ◌∷◌, ap, ◌^◌, arith}
use Rattle.std.proofs.Math.ListN.{length-append}
use Rattle.lists.proofs.Sets.{sets_append}
use Rattle.table_text.specs.Decimal.{decimal}
use Rattle.table_text.proofs.Decimals.{decimal_digit, decimal_more}
use Rattle.table_text.proofs.decimal.+write_decimal.Goals as goal

one : (n : ℕ) → n < 10 → length (decimal n) ≡ 1
one n h = ap length (decimal_digit n h)

grown : (n : ℕ) → 10 ≤ n → n < 2 ^ 64 → length (decimal n) ≡ length (decimal (n / 10)) + 1
grown n h fits = ap length (decimal_more n h fits) ∙ length-append (decimal (n / 10)) ((48 + n % 10) ∷ [])

pub bounds-output-to : goal.bounds-output-to
bounds-output-to t c = omega (arith, one c.args.n c.if-n-lt10.true)

pub returns-then-n-lt10-clause-value : goal.returns-then-n-lt10-clause-value
returns-then-n-lt10-clause-value t c = omega (arith, one c.args.n c.if-n-lt10.true)

pub returns-then-n-lt10-clause-output_after : goal.returns-then-n-lt10-clause-output_after
returns-then-n-lt10-clause-output_after t c = rw (decimal_digit _ c.if-n-lt10.true) refl

pub write_decimal-last-requires : goal.write_decimal-last-requires
write_decimal-last-requires t c = (omega (arith, c.decreases), omega (arith, c.requires, grown c.args.n c.if-n-lt10.false c.ranges.n.fits))

pub bounds-output-last : goal.bounds-output-last
bounds-output-last t c = omega (arith, c.requires, c.write_decimal-last.ensures.value, c.write_decimal-last.auto.output, grown c.args.n c.if-n-lt10.false c.ranges.n.fits)

pub overflow_add-result-2 : goal.overflow_add-result-2
overflow_add-result-2 t c = omega (arith, c.requires, c.write_decimal-last.ensures.value, c.write_decimal-last.auto.output, grown c.args.n c.if-n-lt10.false c.ranges.n.fits)

pub returns-clause-value : goal.returns-clause-value
returns-clause-value t c = omega (arith, c.write_decimal-last.ensures.value, grown c.args.n c.if-n-lt10.false c.ranges.n.fits)

pub returns-clause-output_after : goal.returns-clause-output_after
returns-clause-output_after t c =
    let made = c.write_decimal-last.ensures in
    rw (made.value, made.output_after, decimal_more c.args.n c.if-n-lt10.false c.ranges.n.fits) (sets_append _ _ (decimal (c.args.n / 10)) ((48 + c.args.n % 10) ∷ []))
