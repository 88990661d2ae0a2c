-- Document 01, combining alone: what it answers, and what it leaves in the four result columns.
use Rattle.std.specs.Prelude.{cond, List, Result, Ok, Err, ◌≡◌, ℕ, Float}
use Rattle.lists.specs.Written.{written}
use Rattle.codec_duplex.specs.Columns.{combined_column}
use Rattle.codec_duplex.specs.Kept.{Kept, read, columns_fit}
use Rattle.codec_duplex.specs.Limits.{judged}
use Rattle.codec_duplex.specs.Tally.{tallied}
use Rattle.codec_duplex.specs.Units.{Coding}
use Rattle.codec_duplex.specs.declared.combining.CombineError.{CombineError}
use Rattle.codec_duplex.specs.declared.combining.CombineError.TheVariants.{Disagreeing, ColumnsUnequal}
use Rattle.codec_duplex.specs.declared.limits.Disagreement.{Disagreement}
use Rattle.codec_duplex.specs.declared.position.Position.{Position}
use Rattle.codec_duplex.specs.declared.tally.DuplexBaseTally.{DuplexBaseTally}

-- what the limits answer, as an answer of combining
abbrev pub by_limits : Result DuplexBaseTally Disagreement → Result DuplexBaseTally CombineError
by_limits (Ok tally) = Ok tally
by_limits (Err disagreement) = Err (Disagreeing disagreement)

-- refused where the columns do not fit; otherwise as the limits judge the tallies
unfoldable pub outcome : {U : Type 0} → Coding U → (a b results : Kept U) (count : ℕ) (rate : Float) → Result DuplexBaseTally CombineError
outcome l a b results count rate =
    cond (columns_fit l a b results) (by_limits (judged (tallied a.bases b.bases) count rate)) (Err ColumnsUnequal)

-- a duplex fills the first places of a column; a rejection and a refusal leave it as it was
abbrev pub left : {A : Type 0} → Result DuplexBaseTally CombineError → (duplex old : List A) → List A
left (Ok tally) duplex old = written duplex old
left (Err error) duplex old = old

pub record Combining {U : Type 0} (l : Coding U) (a b : Kept U) (count : ℕ) (rate : Float) (r : Result DuplexBaseTally CombineError) (before after : Kept U) : Type 0 where
  pub answer : r ≡ outcome l a b before count rate
  pub bases : after.bases ≡ left r (combined_column Position.base (read l a) (read l b)) before.bases
  pub quals : after.quals ≡ left r (combined_column Position.quality (read l a) (read l b)) before.quals
  pub depths : after.depths ≡ left r (l.units (combined_column Position.depth (read l a) (read l b))) before.depths
  pub errors : after.errors ≡ left r (l.units (combined_column Position.error (read l a) (read l b))) before.errors
