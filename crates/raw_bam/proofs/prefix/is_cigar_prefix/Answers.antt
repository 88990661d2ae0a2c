-- The tests of the other entries, and the one of the last.
use Rattle.std.proofs.Common.{◌≡◌, ℕ, refl, sym, ◌∙◌, arith, true, length, List, [], ◌∷◌}
use Rattle.std.proofs.lemmas.Bool.{false≢true, lt-ltb, le-ltb}
use Rattle.raw_bam.specs.Prefix.{is_prefix}
use Rattle.raw_bam.proofs.Prefixes.{prefix_split}
use Rattle.raw_bam.proofs.prefix.is_cigar_prefix.Goals as goal
use Rattle.raw_bam.proofs.prefix.is_cigar_prefix.Goals.{then-n-b, else-n-b}

none : (xs ys : List ℕ) → length xs ≡ 0 → true ≡ is_prefix xs ys
unfolding is_prefix
none [] ys e = refl
none (x ∷ xs) ys e = absurd (omega arith)

pub returns-in_default : goal.returns-in_default
returns-in_default c = none c.args.a.now c.args.b.now (omega (arith, c.in_default.ensures))

pub returns-then-starts_with : goal.returns-then-starts_with
returns-then-starts_with c =
    elim c.if-n-b.branch [
      | then-n-b w ↦
          rw (c.in-Some.ensures.cases.0, prefix_split, lt-ltb _ _ w.if-n-b.true, sym w.starts_with.ensures.value ∙ sym w.value-is ∙ c.if-starts_with.true)
          c.fits_last.ensures
      | else-n-b w ↦ absurd (false≢true (sym (le-ltb _ _ w.if-n-b.false) ∙ sym w.value-is ∙ c.if-starts_with.true))
    ]

pub returns-else-starts_with : goal.returns-else-starts_with
returns-else-starts_with c =
    elim c.if-n-b.branch [
      | then-n-b w ↦
          rw (c.in-Some.ensures.cases.0, prefix_split, lt-ltb _ _ w.if-n-b.true, sym w.starts_with.ensures.value ∙ sym w.value-is ∙ c.if-starts_with.false)
          c.if-starts_with.false
      | else-n-b w ↦ rw (c.in-Some.ensures.cases.0, prefix_split, le-ltb _ _ w.if-n-b.false) c.if-starts_with.false
    ]
