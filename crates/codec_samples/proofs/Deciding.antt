-- Refusals 10 and 11 of two ledgers are those of one with no count but families.
use mathlib.Core.Bool.{Bool, true, false, ◌||◌, false≢true}
use mathlib.Core.Path.{◌≡◌, refl, sym, ◌∙◌}
use Prim.Native.Nat.{ℕ}
use Rattle.std.proofs.lemmas.Bool.{or_parts}
use Rattle.std.specs.Prelude.{cond, Result, Ok, Err}
use Rattle.caller.specs.declared.refusal.LedgerRefusal.{LedgerRefusal}
use Rattle.caller.specs.declared.refusal.LedgerRefusal.TheVariants.{TooLarge, Full}
use Rattle.caller.specs.declared.refusal.Refusal.{Refusal}
use Rattle.caller.specs.declared.refusal.Refusal.TheVariants as refusals
use Rattle.caller.proofs.Refusals.{passed}
use Rattle.codec_stats.specs.Ledger.{too_large, full, of_counts}
use Rattle.codec_stats.specs.declared.ledger.Ledger.{Ledger}
use Rattle.codec_samples.specs.Deciding.{with_families, Decides}
use Rattle.codec_samples.specs.SampledCall.{of_books}

-- what so many families bring
too_many : of_counts (with_families 268435457) ≡ Err (refusals.Ledger TooLarge)
unfolding of_counts too_large
too_many = refl

at_limit : of_counts (with_families 268435456) ≡ Err (refusals.Ledger Full)
unfolding of_counts too_large full
at_limit = refl

no_family : of_counts (with_families 0) ≡ Ok tt
unfolding of_counts too_large full
no_family = refl

-- one of two causes of a refusal
either : (why : Refusal) (a b : Bool) (next : Result Unit Refusal) → a || b ≡ true → cond a (Err why) (cond b (Err why) next) ≡ Err why
either why true b next e = refl
either why false true next e = refl
either why false false next e = absurd (false≢true e)

module _ (run own : Ledger) where
  refused_as : (n : ℕ) (why : LedgerRefusal) → of_counts (with_families n) ≡ Err (refusals.Ledger why) → of_books run own ≡ Err (refusals.Ledger why) → Decides run own (with_families n)
  refused_as n why said due =
      record { refuses = said ∙ sym due; else_fresh = λ none. absurd (false≢true (sym (passed true (refusals.Ledger why) (Ok tt) (sym due ∙ none)).0)) }

  -- the tests of both ledgers in turn
  pub some_large : too_large run || too_large own ≡ true → Decides run own (with_families 268435457)
  unfolding of_books
  some_large large = refused_as 268435457 TooLarge too_many (either _ (too_large run) (too_large own) _ large)

  module _ (small : too_large run || too_large own ≡ false) where
    none_large : (too_large run ≡ false) × (too_large own ≡ false)
    none_large = or_parts (too_large run) (too_large own) small

    pub some_full : full run || full own ≡ true → Decides run own (with_families 268435456)
    unfolding of_books
    some_full up = refused_as 268435456 Full at_limit (rw (none_large.0, none_large.1) (either _ (full run) (full own) _ up))

    pub none_full : full run || full own ≡ false → Decides run own (with_families 0)
    unfolding of_books
    none_full room =
        let both = or_parts (full run) (full own) room in
        record { refuses = no_family ∙ sym (rw (none_large.0, none_large.1, both.0, both.1)); else_fresh = λ none. refl }

  -- where neither refuses, neither is too large
  pub both_small : of_books run own ≡ Ok tt → (too_large run ≡ false) × (too_large own ≡ false)
  unfolding of_books
  both_small none =
      let first = passed (too_large run) _ _ none in
      (first.0, (passed (too_large own) _ _ first.1).0)

  -- lowest number first: 10 of the sample comes before 11 of the run
  pub ten_of_sample : too_large run ≡ false → too_large own ≡ true → of_books run own ≡ Err (refusals.Ledger TooLarge)
  unfolding of_books
  ten_of_sample small large = rw (small, large)
