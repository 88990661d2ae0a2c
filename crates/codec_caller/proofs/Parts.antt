-- What holds of a family call between its parts, for every family of which selection chose so.
use mathlib.Core.Bool.{Bool, true, false, cond, not, ◌&&◌, false≢true}
use mathlib.Core.List.{List}
use mathlib.Core.Path.{◌≡◌, refl, sym, ◌∙◌, ap}
use Prim.Native.Nat.{ℕ, ◌≤◌}
use native.Mathlib.Omega.{arith}
use borrow.Author.Tests.{ltb-false, leb-true, eqb-true, not-false}
use lib.Dec.{eqb, leb, ltb}
use lib.ListN.{length}
use Rattle.std.specs.Prelude.{Option, Some, None, is_some, Result, Ok, Err}
use Rattle.std.proofs.lemmas.Bool.{and_parts, or_parts}
use Rattle.lists.specs.Written.{written}
use Rattle.std.specs.Result.{result_and}
use Rattle.caller.specs.declared.refusal.Refusal.{Refusal}
use Rattle.caller.proofs.Refusals.{passed, both_passed}
use Rattle.codec_duplex.specs.Columns.{Strand, HasLength, HasRoom}
use Rattle.codec_duplex.specs.Duplex.{Duplex}
use Rattle.codec_framing.specs.Framing.{Framed}
use Rattle.codec_strands.specs.Strands.{Within, StrandRoom as Roomy}
use Rattle.codec_rejects.specs.Fates.{AreFates, settled, rejections}
use Rattle.codec_rejects.specs.Handover.{mark_words, listed_records, listed_reasons}
use Rattle.codec_rejects.proofs.Listing.{length-handover}
use Rattle.codec_rejects.proofs.Settling.{length-settled}
use Rattle.codec_records.specs.declared.options.Options.{Options}
use Rattle.codec_records.specs.declared.records.Record.{Record}
use Rattle.codec_select.specs.declared.selection.Decision.{Decision}
use Rattle.codec_stats.specs.Ledger.{too_large, of_counts, plus, Addable}
use Rattle.codec_stats.specs.declared.ledger.Ledger.{Ledger}
use Rattle.codec_family.specs.Answer.{reported, reported_answer}
use Rattle.codec_family.specs.Call.{Call, Lent, widths_of, duplex_widths_of, room_of, columns_of, lent_of}
use Rattle.codec_family.specs.Counted.{counted_by, counted}
use Rattle.codec_family.specs.Ending.{is_called, selection, frame_of, frame, ending_from, tally_between, verdict_of, ending, masks_of, duplex_of, strand_r1, strand_r2}
use Rattle.codec_family.specs.FamilyCalled.{column_after, refused_answer, FamilyCalled}
use Rattle.codec_family.specs.Fates.{fate_by, fates, Fated}
use Rattle.codec_family.specs.Refusals.{of_records, refusal_in, bad_columns, in_strand, of_strands, is_wide, too_narrow, of_room, of_call, refusal}
use Rattle.codec_family.specs.declared.answer.FamilyAnswer.{FamilyAnswer}
use Rattle.codec_family.specs.declared.ending.Ending.{Ending}
use Rattle.codec_family.specs.declared.ending.Verdict.{Verdict}
use Rattle.codec_family.specs.Lent.{r1_of, r2_of, call_in}
use Rattle.codec_family.specs.declared.room.Room.{Room}
use Rattle.codec_family.specs.declared.room.Widths.{Widths}
use Rattle.codec_family.specs.declared.strands.Strands.{Strands}
use Rattle.codec_family.proofs.Called.{called_fits, short_frame}
use Rattle.codec_family.proofs.Counting.{counted_few, few_addable}
use Rattle.codec_family.proofs.Refusing.{small_ledger, refused_call, ending_is, fates_are, ledger_is, marks_are, column_is}
use Rattle.codec_family.proofs.Selected.{few_records, decision_refusal}
use Rattle.codec_family.proofs.Settled.{fated}
use Rattle.codec_caller.specs.Columns.{Writable, WrittenIf}
use Rattle.codec_caller.specs.Settling.{Selected, Settles}
use Rattle.codec_caller.specs.declared.family.Settlement.{Settlement}

-- what refusal 7 leaves of a strand
columns_alike : (s : Strand) → bad_columns s ≡ false → HasLength (length s.bases) s
unfolding bad_columns
columns_alike s e =
    let n = length s.bases in
    let equal = not-false _ (or_parts (not (eqb n (length s.quals) && (eqb n (length s.depths) && (eqb n (length s.errors) && true)))) (ltb 1024 n) e).0 in
    let first = and_parts (eqb n (length s.quals)) _ equal in
    let second = and_parts (eqb n (length s.depths)) _ first.1 in
    let third = and_parts (eqb n (length s.errors)) true second.1 in
    record { bases = refl; quals = sym (eqb-true _ _ first.0); depths = sym (eqb-true _ _ second.0); errors = sym (eqb-true _ _ third.0) }

-- the columns of a strand that is there are asked
present-alike : (s : Option Strand) → is_some s ≡ true → in_strand bad_columns s ≡ false → HasLength (length (columns_of s).bases) (columns_of s)
present-alike (Some s) there stand = columns_alike s stand
present-alike None there stand = absurd (false≢true there)

-- four columns of 2,048 places
pub record Wide (w : Widths) : Type 0 where
  pub bases : 2048 ≤ w.bases
  pub quals : 2048 ≤ w.quals
  pub depths : 2048 ≤ w.depths
  pub errors : 2048 ≤ w.errors

wide_columns : (w : Widths) → is_wide w ≡ true → Wide w
wide_columns w e =
    let first = and_parts (leb 2048 w.bases) _ e in
    let second = and_parts (leb 2048 w.quals) _ first.1 in
    let third = and_parts (leb 2048 w.depths) _ second.1 in
    let fourth = and_parts (leb 2048 w.errors) true third.1 in
    record { bases = leb-true _ _ first.0; quals = leb-true _ _ second.0; depths = leb-true _ _ third.0; errors = leb-true _ _ fourth.0 }

-- what refusal 9 leaves of what is lent
pub record Lendable (room : Room) : Type 0 where
  pub duplex : Wide room.duplex
  pub r1 : Wide room.r1
  pub r2 : Wide room.r2
  pub records : 512 ≤ room.listed_records
  pub reasons : 512 ≤ room.listed_reasons
  pub marks : 8 ≤ room.marks

lendable : (room : Room) → too_narrow room ≡ false → Lendable room
unfolding too_narrow
lendable room e =
    let last = or_parts _ (ltb room.marks 8) e in
    let reasons = or_parts _ (ltb room.listed_reasons 512) last.0 in
    let records = or_parts (not (is_wide room.duplex && is_wide room.r1 && is_wide room.r2)) (ltb room.listed_records 512) reasons.0 in
    let wide = not-false _ records.0 in
    let both = and_parts (is_wide room.duplex && is_wide room.r1) (is_wide room.r2) wide in
    let first = and_parts (is_wide room.duplex) (is_wide room.r1) both.0 in
    record {
      duplex = wide_columns room.duplex first.0;
      r1 = wide_columns room.r1 first.1;
      r2 = wide_columns room.r2 both.1;
      records = ltb-false _ _ records.1;
      reasons = ltb-false _ _ reasons.1;
      marks = ltb-false _ _ last.1;
    }

-- a column that is written where the family is called
column-if : (called : Bool) (result old new : List ℕ) → (called ≡ true → new ≡ written result old) → (called ≡ false → new ≡ old) → new ≡ cond called (written result old) old
column-if true result old new filled untouched = filled refl
column-if false result old new filled untouched = untouched refl

within : (n : ℕ) (s : Strand) → length s.bases ≤ n → HasLength (length s.bases) s → Within n s
within n s fits same = record { bases = fits; quals = omega (arith, same.quals); depths = omega (arith, same.depths); errors = omega (arith, same.errors) }

roomy : (n : ℕ) (s : Strand) → n ≤ 2047 → Wide (widths_of s) → Roomy n s
roomy n s few wide =
    record { bases = omega (arith, wide.bases); quals = omega (arith, wide.quals); depths = omega (arith, wide.depths); errors = omega (arith, wide.errors) }

duplex-roomy : (n : ℕ) (d : Duplex) → n ≤ 2047 → Wide (duplex_widths_of d) → HasRoom n d
duplex-roomy n d few wide =
    record { bases = omega (arith, wide.bases); quals = omega (arith, wide.quals); depths = omega (arith, wide.depths); errors = omega (arith, wide.errors) }

-- what a call is given and lent, the decision and the fates of selection, and the refusal
pub record Given : Type 0 where
  pub len : ℕ
  pub options : Options
  pub strands : Strands
  pub lent : Lent
  pub ledger : Ledger
  pub decision : Decision
  pub own : List ℕ
  pub refusal : Result Unit Refusal
  pub refuses :
      refusal
      ≡ result_and (result_and (refusal_in decision) (result_and (of_strands (r1_of strands) (r2_of strands)) (of_room (room_of lent))))
      (of_counts ledger)

-- the parts of one call, in the order of the code
module _ (g : Given) (rs : List Record) (ops : List ℕ) (size : length rs ≡ g.len) (selected : Selected g.options g.len rs ops g.decision g.own) where
  abbrev call : Call
  call = call_in rs ops g.options g.strands g.lent

  decided : g.decision ≡ (selection call).decision
  decided = rw size selected.decided

  refusal_is : g.refusal ≡ refusal call g.ledger
  unfolding refusal of_call
  refusal_is =
      g.refuses
      ∙ ap (λ (first : Result Unit Refusal). result_and (result_and first (result_and (of_strands call.r1 call.r2) (of_room call.room))) (of_counts g.ledger))
      (ap refusal_in decided ∙ decision_refusal call)

  pub family-refused : (why : Refusal) → g.refusal ≡ Err why → FamilyCalled call g.ledger g.lent (reported_answer (refused_answer g.ledger why)) g.lent
  family-refused why e = refused_call call g.lent g.ledger why (sym refusal_is ∙ e)

  module _ (none : g.refusal ≡ Ok tt) where
    stands : refusal call g.ledger ≡ Ok tt
    stands = sym refusal_is ∙ none

    parts_stand : (of_call call ≡ Ok tt) × (of_counts g.ledger ≡ Ok tt)
    unfolding refusal
    parts_stand = both_passed (of_call call) (of_counts g.ledger) stands

    ledger_small : too_large g.ledger ≡ false
    ledger_small = small_ledger g.ledger parts_stand.1

    call_parts : (of_records call ≡ Ok tt) × (of_strands call.r1 call.r2 ≡ Ok tt) × (too_narrow call.room ≡ false)
    unfolding of_call
    call_parts =
        let first = both_passed (of_records call) _ parts_stand.0 in
        let second = both_passed (of_strands call.r1 call.r2) (of_room call.room) first.1 in
        (first.0, second.0, (passed (too_narrow call.room) _ (Ok tt) second.1).0)

    columns_stand : (in_strand bad_columns call.r1 ≡ false) × (in_strand bad_columns call.r2 ≡ false)
    unfolding of_strands
    columns_stand =
        let first = passed (in_strand bad_columns call.r1) _ _ call_parts.1 in
        (first.0, (passed (in_strand bad_columns call.r2) _ _ first.1).0)

    pub lends : Lendable (room_of g.lent)
    lends = lendable (room_of g.lent) call_parts.2

    pub few : g.len ≤ 512
    few = rw size at (few_records call call_parts.0)

    has_fates : Fated call
    has_fates = fated call call_parts.0

    own_is : g.own ≡ (selection call).fates
    own_is = rw size (selected.fates_are few)

    short : (frame_of g.decision).length ≤ 2047
    short = rw decided (short_frame call call_parts.0)

    pub frame_fits : (frame_of g.decision).length ≤ 2048
    frame_fits = omega (arith, short)

    -- the verdict v of steps 8 and 9
    module _ (v : Verdict) (ends : v ≡ verdict_of (ending_from g.decision g.options call.r1 call.r2) (tally_between (frame_of g.decision) call.r1 call.r2)) where
      verdict_is : v ≡ verdict_of (ending call) (tally_between (frame call) call.r1 call.r2)
      unfolding ending
      verdict_is = ends ∙ ap (λ (x : Decision). verdict_of (ending_from x g.options call.r1 call.r2) (tally_between (frame_of x) call.r1 call.r2)) decided

      ending_of : v.ending ≡ ending call
      ending_of = ap Verdict.ending verdict_is

      settled_is : settled (fate_by v.ending) g.own ≡ fates call
      unfolding fates
      settled_is = ap (λ (e : Ending). settled (fate_by e) g.own) ending_of ∙ ap (settled (fate_by (ending call))) own_is

      pub few_own : length g.own ≤ 512
      few_own = omega (arith, length-settled (fate_by v.ending) g.own, ap length settled_is, has_fates.one_each, size, few)

      pub are_fates : AreFates (settled (fate_by v.ending) g.own)
      are_fates = rw settled_is (λ i h. (has_fates.decided i (rw (← has_fates.one_each) h)).1)

      -- what is written into may have a new list and new marks by then
      pub writable : (lent : Lent) → lent.duplex ≡ g.lent.duplex → lent.r1 ≡ g.lent.r1 → lent.r2 ≡ g.lent.r2
          → is_called v.ending ≡ true → Writable (frame_of g.decision) call.r1 call.r2 lent
      writable lent same same1 same2 e =
          let fits = called_fits call (sym (ap is_called ending_of) ∙ e) in
          let n = (frame_of g.decision).length in
          let frame-same : n ≡ (frame call).length = ap (λ (x : Decision). (frame_of x).length) decided in
          record {
            has_r1 = fits.has_r1;
            has_r2 = fits.has_r2;
            framable = record {
              r1 = within n (columns_of call.r1) (rw frame-same fits.r1_fits) (present-alike call.r1 fits.has_r1 columns_stand.0);
              r2 = within n (columns_of call.r2) (rw frame-same fits.r2_fits) (present-alike call.r2 fits.has_r2 columns_stand.1);
              duplex = rw same (duplex-roomy n g.lent.duplex short lends.duplex);
              s1 = rw same1 (roomy n g.lent.r1 short lends.r1);
              s2 = rw same2 (roomy n g.lent.r2 short lends.r2);
            };
          }

      -- the settlement s, and what is left of list and marks
      module _ (s : Settlement) (listed' reasons' marks' : List ℕ) (settles : Settles (settled (fate_by v.ending) g.own) v s g.lent.listed_records g.lent.listed_reasons g.lent.marks listed' reasons' marks') where
        counted_is : s.counted ≡ counted call
        unfolding counted
        counted_is =
            settles.counted
            ∙ ap (λ (own-fates : List ℕ). counted_by (length own-fates) own-fates v.ending v.tally) settled_is
            ∙ ap (λ (n : ℕ). counted_by n (fates call) v.ending v.tally) has_fates.one_each
            ∙ ap (λ (x : Verdict). counted_by (length rs) (fates call) x.ending x.tally) verdict_is

        pub addable : Addable g.ledger s.counted
        addable = rw counted_is (few_addable g.ledger (counted call) ledger_small (counted_few call call_parts.0 has_fates))

        -- the twelve columns, and the answer
        module _ (after : Lent) (columns : WrittenIf (is_called v.ending) (frame_of g.decision) (masks_of g.options) (columns_of call.r1) (columns_of call.r2) (lent_of g.lent.duplex g.lent.r1 g.lent.r2 listed' reasons' marks') after) where
          written-if : (result old new : List ℕ) → (is_called v.ending ≡ true → new ≡ written result old) → (is_called v.ending ≡ false → new ≡ old) → new ≡ column_after call (refusal call g.ledger) result old
          written-if result old new filled untouched =
              column-if (is_called v.ending) result old new filled untouched
              ∙ ap (λ (e : Ending). cond (is_called e) (written result old) old) ending_of
              ∙ sym (column_is call g.ledger stands result old)

          filled_as : is_called v.ending ≡ true → Framed (frame call) (masks_of g.options) (columns_of call.r1) (columns_of call.r2) g.lent.duplex after.duplex g.lent.r1 after.r1 g.lent.r2 after.r2
          filled_as e = rw (ap frame_of decided) at (columns.filled e)

          pub family_answered : (answer : FamilyAnswer) → answer.ending ≡ reported v.ending → answer.listed ≡ s.listed → answer.ledger ≡ plus g.ledger s.counted
              → FamilyCalled call g.ledger g.lent answer after
          family_answered answer ended many added =
              record {
                results = record {
                  ended = ended ∙ ap reported (ending_of ∙ sym (ending_is call g.ledger stands));
                  marks = columns.marks ∙ settles.marks-written ∙ ap (λ (own-fates : List ℕ). written (mark_words own-fates) g.lent.marks) settled_is ∙ sym (marks_are call g.ledger stands g.lent.marks);
                  list_length = rw (fates_are call g.ledger stands) (many ∙ settles.list_length ∙ ap rejections settled_is ∙ sym (length-handover (fates call)));
                  list_records =
                      rw (fates_are call g.ledger stands)
                      (columns.list_records ∙ settles.records_written ∙ ap (λ (own-fates : List ℕ). written (listed_records own-fates) g.lent.listed_records) settled_is);
                  list_reasons =
                      rw (fates_are call g.ledger stands)
                      (columns.list_reasons ∙ settles.reasons_written ∙ ap (λ (own-fates : List ℕ). written (listed_reasons own-fates) g.lent.listed_reasons) settled_is);
                  duplex_bases = written-if (duplex_of call).bases g.lent.duplex.bases after.duplex.bases (λ e. ap Duplex.bases (filled_as e).duplex) (λ e. ap Duplex.bases (columns.untouched e).0);
                  duplex_quals = written-if (duplex_of call).quals g.lent.duplex.quals after.duplex.quals (λ e. ap Duplex.quals (filled_as e).duplex) (λ e. ap Duplex.quals (columns.untouched e).0);
                  duplex-depths = written-if (duplex_of call).depths g.lent.duplex.depths after.duplex.depths (λ e. ap Duplex.depths (filled_as e).duplex) (λ e. ap Duplex.depths (columns.untouched e).0);
                  duplex_errors = written-if (duplex_of call).errors g.lent.duplex.errors after.duplex.errors (λ e. ap Duplex.errors (filled_as e).duplex) (λ e. ap Duplex.errors (columns.untouched e).0);
                  r1_bases = written-if (strand_r1 call).bases g.lent.r1.bases after.r1.bases (λ e. ap Strand.bases (filled_as e).s1) (λ e. ap Strand.bases (columns.untouched e).1);
                  r1_quals = written-if (strand_r1 call).quals g.lent.r1.quals after.r1.quals (λ e. ap Strand.quals (filled_as e).s1) (λ e. ap Strand.quals (columns.untouched e).1);
                  r1_depths = written-if (strand_r1 call).depths g.lent.r1.depths after.r1.depths (λ e. ap Strand.depths (filled_as e).s1) (λ e. ap Strand.depths (columns.untouched e).1);
                  r1_errors = written-if (strand_r1 call).errors g.lent.r1.errors after.r1.errors (λ e. ap Strand.errors (filled_as e).s1) (λ e. ap Strand.errors (columns.untouched e).1);
                  r2_bases = written-if (strand_r2 call).bases g.lent.r2.bases after.r2.bases (λ e. ap Strand.bases (filled_as e).s2) (λ e. ap Strand.bases (columns.untouched e).2);
                  r2_quals = written-if (strand_r2 call).quals g.lent.r2.quals after.r2.quals (λ e. ap Strand.quals (filled_as e).s2) (λ e. ap Strand.quals (columns.untouched e).2);
                  r2_depths = written-if (strand_r2 call).depths g.lent.r2.depths after.r2.depths (λ e. ap Strand.depths (filled_as e).s2) (λ e. ap Strand.depths (columns.untouched e).2);
                  r2_errors = written-if (strand_r2 call).errors g.lent.r2.errors after.r2.errors (λ e. ap Strand.errors (filled_as e).s2) (λ e. ap Strand.errors (columns.untouched e).2);
                };
                ledger_after = added ∙ ap (plus g.ledger) counted_is ∙ sym (ledger_is call g.ledger stands);
              }
