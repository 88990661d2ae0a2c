-- By the tests of both ledgers in turn.
use Rattle.codec_samples.proofs.Deciding.{some_large, some_full, none_full}
use Rattle.codec_samples.proofs.books.deciding_families.Goals as goal

pub returns-then-some_too_large : goal.returns-then-some_too_large
returns-then-some_too_large c =
    some_large _ _ (rw (← c.is_too_large.ensures, ← c.is_too_large-2.ensures) c.if-some_too_large.true)

pub returns-then-some_full : goal.returns-then-some_full
returns-then-some_full c =
    some_full _ _ (rw (← c.is_too_large.ensures, ← c.is_too_large-2.ensures) c.if-some_too_large.false)
    (rw (← c.is_full.ensures, ← c.is_full-2.ensures) c.if-some_full.true)

pub returns-else-some_full : goal.returns-else-some_full
returns-else-some_full c =
    none_full _ _ (rw (← c.is_too_large.ensures, ← c.is_too_large-2.ensures) c.if-some_too_large.false)
    (rw (← c.is_full.ensures, ← c.is_full-2.ensures) c.if-some_full.false)
