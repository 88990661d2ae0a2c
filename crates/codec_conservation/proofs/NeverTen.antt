-- What follows from the contract: from a fresh ledger refusal 10 never comes.
use mathlib.Core.Bool.{Bool, true, false, cond, not, ◌||◌, false≢true}
use mathlib.Core.List.{List, [], ◌∷◌}
use mathlib.Core.Path.{◌≡◌, refl, sym, ◌∙◌, ap}
use Prim.Native.Nat.{ℕ, ◌+◌, ◌*◌, ◌≤◌, ◌<◌}
use native.Mathlib.Omega.{arith}
use borrow.Author.Tests.{eqb-false, le-leb, le-ltb}
use lib.Dec.{leb, ltb}
use lib.ListN.{length, get_or}
use Rattle.std.specs.Prelude.{Option, None, Some, Result, Ok, Err}
use Rattle.std.specs.Result.{IfErr, result_and, result_map_both}
use Rattle.std.specs.List.{list_all}
use Rattle.std.proofs.lemmas.List.Folds.{list_all-append}
use Rattle.lists.proofs.Every.{list_all_of}
use Rattle.lists.proofs.Places.{get_d_repeated}
use Rattle.lists.proofs.Tabulate.{get_d_tabulate, length-tabulate}
use Rattle.caller.specs.Refusals.{number_of}
use Rattle.caller.specs.declared.refusal.LedgerRefusal.TheVariants.{TooLarge, Full}
use Rattle.caller.specs.declared.refusal.ReadType.TheVariants.{R1, R2}
use Rattle.caller.specs.declared.refusal.Refusal.{Refusal}
use Rattle.caller.specs.declared.refusal.Refusal.TheVariants.{MinimumTooLong, TooManyRecords, BadPart, BadOperation, BadLength, BadPlace, BadColumns, BadBase, TooNarrow, Ledger as OfLedger}
use Rattle.codec_pairing.specs.Refusals.{has_bad_part, has_bad_words, has_bad_bases, has_bad_place, lowest_bad, refused_at, refusal_of_records, first_refusal, Reads, reads}
use Rattle.codec_select.specs.Alignments.{alignments_of}
use Rattle.codec_records.specs.Records.{column}
use Rattle.codec_select.specs.Steps.{fates_of}
use Rattle.codec_records.specs.declared.records.Record.{Record}
use Rattle.codec_stats.specs.Ledger.{fresh, record_counters, other_counts, too_large, full, of_counts, plus}
use Rattle.codec_stats.specs.declared.ledger.Ledger.{Ledger}
use Rattle.codec_family.specs.Answer.{reported, says_refused, refused_number}
use Rattle.codec_duplex.specs.Columns.{Strand}
use Rattle.codec_family.specs.Call.{Call}
use Rattle.codec_family.specs.Counted.{counted}
use Rattle.codec_family.specs.Ending.{ending}
use Rattle.codec_family.specs.FamilyCalled.{unless_refused, ending_with}
use Rattle.codec_family.specs.Refusals.{refusal, of_call, of_records, bad_columns, bad_bases, in_strand, of_strands, too_narrow, of_room}
use Rattle.codec_family.specs.declared.answer.FamilyEnding.{FamilyEnding}
use Rattle.codec_family.specs.declared.ending.Ending.{Ending}
use Rattle.codec_family.proofs.Answering.{stands_answered}
use Rattle.codec_family.proofs.Counting.{Few, counted_few}
use Rattle.caller.proofs.Refusals.{both_passed}
use Rattle.codec_family.proofs.Refusing.{records_stand, call_stands}
use Rattle.codec_family.proofs.Settled.{Stands, ending-unrefused}
use Rattle.codec_conservation.specs.Chain.{Made, Handed, ChainFrom, Chain, Each}
use Rattle.codec_conservation.proofs.Taking.{left_alone, unrefused, added, taken, taken_fated}

-- so the counts stay in proportion to the families, which end at 2^28
pub record Bounded (l : Ledger) : Type 0 where
  pub families : l.families ≤ 268435456
  pub records : l.records ≤ 512 * l.families
  pub ten : length l.reasons ≡ 10
  pub reasons : (i : ℕ) → i < 10 → get_or l.reasons i 0 ≤ 512 * l.families
  pub passed_over : l.passed_over ≤ 512 * l.families
  pub no_strand : l.no_strand ≤ 512 * l.families
  pub used : l.used ≤ 512 * l.families
  pub rejected : l.disagreement_rejected ≤ l.families
  pub duplexes : l.duplexes ≤ l.families
  pub bases : l.bases ≤ 2047 * l.families
  pub duplex_bases : l.duplex_bases ≤ 2047 * l.families
  pub disagreements : l.disagreements ≤ 2047 * l.families

pub fresh_bounded : Bounded fresh
fresh_bounded =
    record {
      families = omega arith;
      records = omega arith;
      ten = refl;
      reasons = λ i h. rw (get_d_repeated {A = ℕ} 10 i 0) (omega arith);
      passed_over = omega arith;
      no_strand = omega arith;
      used = omega arith;
      rejected = omega arith;
      duplexes = omega arith;
      bases = omega arith;
      duplex_bases = omega arith;
      disagreements = omega arith;
    }

pub plus_bounded : (l more : Ledger) → l.families < 268435456 → Bounded l → Few more → Bounded (plus l more)
unfolding plus
plus_bounded l more room b f =
    let one = f.families in
    record {
      families = omega (arith, one);
      records = omega (arith, one, b.records, f.records);
      ten = length-tabulate (λ i. get_or l.reasons i 0 + get_or more.reasons i 0) 10;
      reasons = λ i h. rw (get_d_tabulate (λ i. get_or l.reasons i 0 + get_or more.reasons i 0) 10 i 0 h) (omega (arith, one, b.reasons i h, f.reasons i h));
      passed_over = omega (arith, one, b.passed_over, f.passed_over);
      no_strand = omega (arith, one, b.no_strand, f.no_strand);
      used = omega (arith, one, b.used, f.used);
      rejected = omega (arith, one, b.rejected, f.rejected);
      duplexes = omega (arith, one, b.duplexes, f.duplexes);
      bases = omega (arith, one, b.bases, f.bases);
      duplex_bases = omega (arith, one, b.duplex_bases, f.duplex_bases);
      disagreements = omega (arith, one, b.disagreements, f.disagreements);
    }

-- refusal 10's cause does not hold of such counts
pub bounded_small : (l : Ledger) → Bounded l → too_large l ≡ false
unfolding too_large
bounded_small l b = rw (le-ltb 268435456 l.families b.families) (ap not others)
  where
    fits : (n : ℕ) → n ≤ 2047 * l.families → leb n 2199023255552 ≡ true
    fits n h = le-leb n 2199023255552 (omega (arith, b.families))

    test : ℕ → Bool
    test n = leb n 2199023255552

    three : List ℕ
    three = l.passed_over ∷ l.no_strand ∷ l.used ∷ []

    rest : List ℕ
    rest = l.disagreement_rejected ∷ l.duplexes ∷ l.bases ∷ l.duplex_bases ∷ l.disagreements ∷ []

    reason_fits : (k : ℕ) → k < length l.reasons → test (get_or l.reasons k 0) ≡ true
    reason_fits k h = fits (get_or l.reasons k 0) (omega (arith, b.reasons k (rw b.ten at h)))

    others : list_all test (other_counts l) ≡ true
    others =
        rw (fits l.records (omega (arith, b.records)), list_all-append test (record_counters l) rest, list_all-append test l.reasons three, list_all_of test l.reasons 0 reason_fits)
        (rw (fits l.passed_over (omega (arith, b.passed_over)), fits l.no_strand (omega (arith, b.no_strand)), fits l.used (omega (arith, b.used)))
        (rw (fits l.disagreement_rejected (omega (arith, b.rejected)), fits l.duplexes (omega (arith, b.duplexes)), fits l.bases b.bases, fits l.duplex_bases b.duplex_bases, fits l.disagreements b.disagreements)))

-- a refusal of another number
abbrev pub NotTen : Result Unit Refusal → Type 0
NotTen r = IfErr r (λ why. number_of why ≡ 10 → ⊥)

pub and_not : (first next : Result Unit Refusal) → NotTen first → NotTen next → NotTen (result_and first next)
and_not (Ok done) next p q = q
and_not (Err why) next p q = p

pub cause_not : (cause : Bool) (why : Refusal) (next : Result Unit Refusal) → (number_of why ≡ 10 → ⊥) → NotTen next → NotTen (cond cause (Err why) next)
cause_not true why next p q = p
cause_not false why next p q = q

refused-not : (cause : ℕ → Refusal) (found : Option ℕ) → ((i : ℕ) → number_of (cause i) ≡ 10 → ⊥) → NotTen (refused_at cause found)
refused-not cause None p = tt
refused-not cause (Some i) p = p i

of_reads : (f : Reads) → NotTen (refusal_of_records f)
unfolding refusal_of_records
of_reads f =
    and_not (refused_at BadPart (lowest_bad (has_bad_part f.ops) f)) _ (refused-not BadPart _ (λ i e. omega arith))
    (and_not (refused_at BadOperation (lowest_bad (has_bad_words f.ops) f)) _ (refused-not BadOperation _ (λ i e. omega arith))
    (and_not (refused_at BadLength (lowest_bad (has_bad_bases f.ops) f)) _ (refused-not BadLength _ (λ i e. omega arith))
    (refused-not BadPlace (lowest_bad (has_bad_place f.ops) f) (λ i e. omega arith))))

of_first : (minimum records : ℕ) (f : Reads) → NotTen (first_refusal minimum records f)
unfolding first_refusal
of_first minimum records f =
    cause_not (ltb 2147483647 minimum) MinimumTooLong _ (λ e. omega arith)
    (cause_not (ltb 512 records || ltb 8192 (length f.ops)) TooManyRecords _ (λ e. omega arith) (of_reads f))

pub records_not : (c : Call) → NotTen (of_records c)
unfolding of_records
records_not c =
    let own = fates_of (column Record.flags c.records) (column Record.name c.records) (column Record.verdict c.records) in
    let a = alignments_of c.records c.ops in
    of_first c.options.min_duplex_length (length c.records) (reads own a.clipped a.positions a.starts a.counts a.ops)

strands_not : (r1 r2 : Option Strand) → NotTen (of_strands r1 r2)
unfolding of_strands
strands_not r1 r2 =
    cause_not (in_strand bad_columns r1) (BadColumns R1) _ (λ e. omega arith)
    (cause_not (in_strand bad_columns r2) (BadColumns R2) _ (λ e. omega arith)
    (cause_not (in_strand bad_bases r1) (BadBase R1) _ (λ e. omega arith)
    (cause_not (in_strand bad_bases r2) (BadBase R2) (Ok tt) (λ e. omega arith) tt)))

-- refusals 1 to 9
pub call_not : (c : Call) → NotTen (of_call c)
unfolding of_call
call_not c =
    and_not (of_records c) _ (records_not c)
    (and_not (of_strands c.r1 c.r2) (of_room c.room) (strands_not c.r1 c.r2)
    (cause_not (too_narrow c.room) TooNarrow (Ok tt) (λ e. omega arith) tt))

full-not : (full : Bool) → NotTen (result_map_both (λ done. done) OfLedger (cond full (Err Full) (Ok tt)))
full-not true = λ e. omega arith
full-not false = tt

counts_not : (l : Ledger) → too_large l ≡ false → NotTen (of_counts l)
unfolding of_counts
counts_not l small = rw small (full-not (full l))

ten_not : (c : Call) (l : Ledger) → too_large l ≡ false → NotTen (refusal c l)
unfolding refusal
ten_not c l small = and_not (of_call c) (of_counts l) (call_not c) (counts_not l small)

-- a call that is not refused has room for one family more
not-full : (large full : Bool) (r : Result Unit Refusal) → r ≡ result_map_both (λ done. done) OfLedger (cond large (Err TooLarge) (cond full (Err Full) (Ok tt))) → r ≡ Ok tt → full ≡ false
not-full true full r is none = cc
not-full false true r is none = cc
not-full false false r is none = refl

room_for_one : (c : Call) (l : Ledger) → refusal c l ≡ Ok tt → full l ≡ false
unfolding refusal of_counts
room_for_one c l none = not-full (too_large l) (full l) (of_counts l) refl (both_passed (of_call c) _ none).1

pub below-full : (l : Ledger) → Bounded l → full l ≡ false → l.families < 268435456
unfolding full
below-full l b e = omega (arith, b.families, eqb-false l.families 268435456 e)

handed_bounded : (l : Ledger) (m : Made) → Handed l m → Bounded l → Bounded m.answer.ledger
handed_bounded l m handed b = go (says_refused m.answer.ending) refl
  where
    go : (r : Bool) → says_refused m.answer.ending ≡ r → Bounded m.answer.ledger
    go true e = rw (left_alone handed e) b
    go false e =
        let t = taken handed e in
        rw (added handed e) (plus_bounded l (counted m.call) (below-full l b (room_for_one m.call l (unrefused handed e))) b (counted_few m.call t.records_stand (taken_fated t)))

-- answered as refusal 10
abbrev pub AnsweredTen : FamilyEnding → Type 0
AnsweredTen e = (e.kind ≡ refused_number) × (e.number ≡ 10)

-- an answer that is a refusal is the table's
pub answered_ten : (r : Result Unit Refusal) (e : Ending) → NotTen r → (r ≡ Ok tt → Stands e) → AnsweredTen (reported (unless_refused r e)) → ⊥
answered_ten (Ok done) e p stands ten = false≢true (sym (stands_answered e (stands refl)) ∙ rw ten.0)
answered_ten (Err why) e p stands ten = p ten.1

from_bounded : (l : Ledger) (made : List Made) → Bounded l → ChainFrom l made → Each (λ m. AnsweredTen m.answer.ending → ⊥) made
unfolding ending_with
from_bounded l [] b chain = tt
from_bounded l (m ∷ later) b chain = (
  λ ten.
      answered_ten (refusal m.call l) (ending m.call) (ten_not m.call l (bounded_small l b)) (λ none. ending-unrefused m.call (records_stand m.call (call_stands m.call l none)))
      (rw chain.0.contract.results.ended at ten),
  from_bounded m.answer.ledger later (handed_bounded l m chain.0 b) chain.1,
)

-- from a fresh ledger refusal 10 never comes
pub never_ten : (made : List Made) → Chain made → Each (λ m. AnsweredTen m.answer.ending → ⊥) made
never_ten made chain = from_bounded fresh made fresh_bounded chain
