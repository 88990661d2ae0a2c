-- The answer of selection alone: on columns and on records, and of more than 512 records, whose refusal tells nothing but their number.
use mathlib.Core.Bool.{Bool, true, false, cond}
use mathlib.Core.List.{List, []}
use mathlib.Core.Path.{◌≡◌, refl, sym, ◌∙◌}
use Prim.Native.Nat.{ℕ, ◌≤◌, ◌<◌}
use native.Mathlib.Omega.{arith}
use borrow.Author.Tests.{lt-ltb, ltb-true, ltb-false}
use lib.Dec.{ltb}
use lib.IntN.{ℤ}
use lib.ListN.{length, take}
use Rattle.codec_select.specs.Alignments.{Alignments, alignments, alignments_of}
use Rattle.codec_records.specs.Marks.{marks, side_flags}
use Rattle.codec_records.specs.Records.{column, Holds, room_of}
use Rattle.codec_pairing.specs.Refusals.{first_refusal}
use Rattle.codec_select.specs.Selection.{course_of}
use Rattle.record_selection.specs.Selecting.{SelectsInto, Selects}
use Rattle.codec_select.specs.Steps.{Course, CourseIn, unless_refused, selected}
use Rattle.codec_records.specs.declared.columns.Columns.{Columns}
use Rattle.codec_records.specs.declared.options.Options.{Options}
use Rattle.codec_records.specs.declared.records.Record.{Record}
use Rattle.std.specs.Prelude.{Err}
use Rattle.caller.specs.declared.refusal.Refusal.TheVariants.{MinimumTooLong, TooManyRecords}
use Rattle.codec_select.specs.declared.selection.Decision.{Decision}
use Rattle.codec_select.specs.declared.selection.Decision.TheVariants.{Refused}
use Rattle.codec_select.specs.declared.selection.Selection.{Selection}
use Rattle.codec_records.specs.declared.side.Sides.{Sides}
use Rattle.codec_records.proofs.Words.{no_marks}

-- for the minimum duplex length where that is refused too, else for their number
abbrev refused_many : Options → Decision
refused_many o = cond (ltb 2147483647 o.min_duplex_length) (Refused MinimumTooLong) (Refused TooManyRecords)

-- nothing is kept
record Unkept (decision : Decision) (outcome : Course) : Type 0 where
  pub ends : outcome.decision ≡ decision
  pub no_r1 : outcome.r1 ≡ []
  pub no_r2 : outcome.r2 ≡ []

by_minimum : (test : Bool) (fates : List ℕ) (outcome : Course)
    → Unkept (cond test (Refused MinimumTooLong) (Refused TooManyRecords)) (unless_refused (cond test (Err MinimumTooLong) (Err TooManyRecords)) fates outcome)
by_minimum true fates outcome = record { ends = refl; no_r1 = refl; no_r2 = refl }
by_minimum false fates outcome = record { ends = refl; no_r1 = refl; no_r2 = refl }

many_refused : (o : Options) (count : ℕ) → 512 < count → (names : List ℕ) (verdicts : List Bool) (ranks : List ℤ) (a : Alignments) → Unkept (refused_many o) (selected o count names verdicts ranks a)
unfolding selected first_refusal
many_refused o count many names verdicts ranks a = rw (lt-ltb 512 count many) (by_minimum (ltb 2147483647 o.min_duplex_length) _ _)

records_refused : (o : Options) (count : ℕ) → 512 < count → (records : List Record) (ops : List ℕ) → Unkept (refused_many o) (course_of o count records ops)
records_refused o count many records ops =
    many_refused o count many (column Record.name records) (column Record.verdict records) (column Record.rank records) (alignments_of records ops)

-- of too many records, no other records make a difference
selects_many : (o : Options) (count : ℕ) → 512 < count → (some others : List Record) (ops : List ℕ) (s : Selection) → Selects o count some ops s → Selects o count others ops s
selects_many o count many some others ops s selects =
    let own = records_refused o count many some ops in
    let other = records_refused o count many others ops in
    record {
      decision = selects.decision ∙ own.ends ∙ sym other.ends;
      r1 = selects.r1 ∙ unmarked (course_of o count some ops).r1 (course_of o count others ops).r1 (length some) (length others) own.no_r1 other.no_r1;
      r2 = selects.r2 ∙ unmarked (course_of o count some ops).r2 (course_of o count others ops).r2 (length some) (length others) own.no_r2 other.no_r2;
    }
  where
    unmarked : (xs ys : List ℕ) (m n : ℕ) → xs ≡ [] → ys ≡ [] → marks (side_flags xs m) ≡ marks (side_flags ys n)
    unmarked xs ys m n e f = rw (e, f, no_marks m, no_marks n)

-- what is given on columns that are the records' fields
of_records_lem : (o : Options) (count : ℕ) (records : List Record) (ops : List ℕ) (decision : Decision) (fates : List ℕ) (sides : Sides)
    {flags names : List ℕ} {verdicts : List Bool} {ranks : List ℤ} {clipped positions starts counts : List ℕ}
    → flags ≡ column Record.flags records → names ≡ column Record.name records → verdicts ≡ column Record.verdict records → ranks ≡ column Record.rank records
    → clipped ≡ column Record.clipped records → positions ≡ column Record.position records → starts ≡ column Record.start records → counts ≡ column Record.count records
    → CourseIn (selected o count names verdicts ranks (alignments flags clipped positions starts counts ops)) decision fates sides
    → CourseIn (course_of o count records ops) decision fates sides
of_records_lem o count records ops decision fates sides a b c d e f g h given = rw (a, b, c, d, e, f, g, h) at given

-- the sides of as many records as mark words
selects_marked : (o : Options) (count : ℕ) (records : List Record) (ops : List ℕ) (n : ℕ) (fates : List ℕ) (sides : Sides) (s : Selection)
    → n ≡ length records → SelectsInto o count records ops s.decision fates sides
    → s.r1 ≡ marks (side_flags sides.r1 n) → s.r2 ≡ marks (side_flags sides.r2 n)
    → Selects o count records ops s
selects_marked o count records ops n fates sides s size into e f =
    record {
      decision = into.decision_is;
      r1 = e ∙ rw (into.r1_is, size);
      r2 = f ∙ rw (into.r2_is, size);
    }

-- every list of records that the columns hold; of too many, any list
module _ (o : Options) (c : Columns) (ops : List ℕ) (fates : List ℕ) (sides : Sides) where
  abbrev count : ℕ
  count = c.given

  abbrev n : ℕ
  n = room_of c.given

  abbrev here : Alignments
  here = alignments (take n c.flags) (take n c.clipped) (take n c.positions) (take n c.starts) (take n c.counts) ops

  -- what the first n places of the columns give
  pub into_records : (decision : Decision) → CourseIn (selected o count (take n c.names) (take n c.verdicts) (take n c.ranks) here) decision fates sides
      → (records : List Record) → (count ≤ 512 → Holds c count records) → SelectsInto o count records ops decision fates sides
  into_records decision given records holds = by (ltb 512 count) refl refl
    where
      by : (test : Bool) → ltb 512 count ≡ test → n ≡ cond test 0 count → SelectsInto o count records ops decision fates sides
      by true test f =
          let many = ltb-true 512 count test in
          let own = many_refused o count many (take n c.names) (take n c.verdicts) (take n c.ranks) here in
          let other = records_refused o count many records ops in
          record {
            decision_is = given.decision_is ∙ own.ends ∙ sym other.ends;
            fates_are = λ few. absurd (omega (arith, many, few));
            r1_is = given.r1_is ∙ own.no_r1 ∙ sym other.no_r1;
            r2_is = given.r2_is ∙ own.no_r2 ∙ sym other.no_r2;
          }
      by false test f =
          let held : Holds c n records = rw f (holds (ltb-false 512 count test)) in
          let own = of_records_lem o count records ops decision fates sides held.flags_are held.names_are held.verdicts_are held.ranks_are held.clipped_are held.positions_are held.starts_are held.counts_are given in
          record { decision_is = own.decision_is; fates_are = λ few. own.fates_are; r1_is = own.r1_is; r2_is = own.r2_is }

  -- the sides as mark words
  pub marked_records : (s : Selection) → ((records : List Record) → (count ≤ 512 → Holds c count records) → SelectsInto o count records ops s.decision fates sides)
      → s.r1 ≡ marks (side_flags sides.r1 n) → s.r2 ≡ marks (side_flags sides.r2 n)
      → (records : List Record) → (count ≤ 512 → Holds c count records) → Selects o count records ops s
  marked_records s into e f records holds = by (ltb 512 count) refl refl
    where
      by : (test : Bool) → ltb 512 count ≡ test → n ≡ cond test 0 count → Selects o count records ops s
      by true test none =
          let many = ltb-true 512 count test in
          selects_many o count many [] records ops s (selects_marked o count [] ops n fates sides s none (into [] (λ few. absurd (omega (arith, many, few)))) e f)
      by false test all = selects_marked o count records ops n fates sides s (all ∙ (holds (ltb-false 512 count test)).as_many) (into records holds) e f
