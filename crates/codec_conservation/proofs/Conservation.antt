-- Document 01, demand 3, the conservation rule: one claim about every list of family calls.
use mathlib.Core.Bool.{Bool, true, false, cond, not}
use mathlib.Core.List.{List, [], ◌∷◌}
use mathlib.Core.Path.{◌≡◌, refl, sym, ◌∙◌, ap}
use Prim.Native.Nat.{ℕ, ◌+◌, ◌≤◌}
use native.Mathlib.Omega.{arith}
use lib.ListN.{length}
use Rattle.lists.specs.Count.{count_below}
use Rattle.std.specs.List.{filter}
use Rattle.lists.specs.Total.{total}
use Rattle.codec_duplex.specs.Tally.{both_call, disagree}
use Rattle.codec_stats.specs.Ledger.{fresh, figures, counter, filtered, plus}
use Rattle.codec_stats.specs.declared.ledger.Ledger.{Ledger}
use Rattle.codec_stats.proofs.Adding.{plus_ten, counter-fresh, counter-plus, filtered-fresh, filtered-plus}
use Rattle.codec_conservation.specs.Chain.{Made, ChainFrom, Chain, last_from, calls_of, unrefused, duplexes, disagreeing, Each}
use Rattle.codec_conservation.specs.Conserved.{Marked, first_bases, second_bases, Claims, Conserved}
use Rattle.codec_rejects.specs.Fates.{with_fate}
use Rattle.codec_family.specs.Answer.{reported, says_refused, says_called, says_disagreeing}
use Rattle.codec_family.specs.Counted.{ended_by_disagreement, counted_by, counted}
use Rattle.codec_family.specs.Ending.{is_called, called_length, ending, frame, tally_between}
use Rattle.codec_family.specs.Fates.{fates, Fated}
use Rattle.codec_family.specs.declared.answer.FamilyEnding.{FamilyEnding}
use Rattle.codec_family.specs.declared.ending.Ending.{Ending}
use Rattle.codec_family.specs.declared.ending.Ending.TheVariants as endings
use Rattle.codec_conservation.specs.History.{history_from, history}
use Rattle.codec_family.proofs.Called.{called-tally}
use Rattle.codec_family.proofs.Counting.{counted_ten, counted-all, counted_fate}
use Rattle.lists.proofs.Total.{total-filter, total_ones}
use Rattle.codec_conservation.proofs.Taking.{Taken, left_alone, added, taken, taken_fated, taken_marked}

-- the ledger is the history's at every call
follows : (ledger : Ledger) (made : List Made) → ChainFrom ledger made → last_from ledger made ≡ history_from ledger (calls_of made)
unfolding history_from
follows ledger [] chain = refl
follows ledger (m ∷ later) chain =
    follows m.answer.ledger later chain.1 ∙ ap (λ (l : Ledger). history_from l (calls_of later)) chain.0.contract.ledger_after

abbrev Ten : Ledger → Type 0
Ten l = length l.reasons ≡ 10

-- counts, and what each call of a list adds to them
unfoldable pub added_up : Ledger → List Made → Ledger
added_up l [] = l
added_up l (m ∷ later) = added_up (plus l (counted m.call)) later

-- the ledger after a chain is the one before and what each call not refused adds
adds_up : (ledger : Ledger) (made : List Made) → ChainFrom ledger made → last_from ledger made ≡ added_up ledger (unrefused made)
unfolding added_up
adds_up ledger [] chain = refl
adds_up ledger (m ∷ later) chain = adds_up m.answer.ledger later chain.1 ∙ go (says_refused m.answer.ending) refl
  where
    go : (b : Bool) → says_refused m.answer.ending ≡ b → added_up m.answer.ledger (unrefused later) ≡ added_up ledger (cond (not b) (m ∷ unrefused later) (unrefused later))
    go true e = ap (λ (l : Ledger). added_up l (unrefused later)) (left_alone chain.0 e)
    go false e = ap (λ (l : Ledger). added_up l (unrefused later)) (added chain.0 e)

-- what holds of each call that is not refused
pub each_taken : (P : Made → Type 0) → ((m : Made) → Taken m → P m) → (taken : List Made) → Each Taken taken → Each P taken
each_taken P holds [] each = tt
each_taken P holds (m ∷ later) each = (holds m each.0, each_taken P holds later each.1)

all-taken : (ledger : Ledger) (made : List Made) → ChainFrom ledger made → Each Taken (unrefused made)
all-taken ledger [] chain = tt
all-taken ledger (m ∷ later) chain = go (says_refused m.answer.ending) refl (all-taken m.answer.ledger later chain.1)
  where
    go : (b : Bool) → says_refused m.answer.ending ≡ b → Each Taken (unrefused later) → Each Taken (cond (not b) (m ∷ unrefused later) (unrefused later))
    go true e rest = rest
    go false e rest = (taken chain.0 e, rest)

-- what an answer says is so of the ending
says_called_lem : (e : Ending) → says_called (reported e) ≡ is_called e
says_called_lem (endings.Called length) = refl
says_called_lem endings.Empty = refl
says_called_lem endings.NoStrand = refl
says_called_lem (endings.Rejected reason) = refl
says_called_lem (endings.Disagreeing limit) = refl
says_called_lem (endings.Refused refusal) = refl

says_disagreeing_lem : (e : Ending) → says_disagreeing (reported e) ≡ ended_by_disagreement e
says_disagreeing_lem (endings.Called length) = refl
says_disagreeing_lem endings.Empty = refl
says_disagreeing_lem endings.NoStrand = refl
says_disagreeing_lem (endings.Rejected reason) = refl
says_disagreeing_lem (endings.Disagreeing limit) = refl
says_disagreeing_lem (endings.Refused refusal) = refl

says_length : (e : Ending) → (reported e).length ≡ called_length e
says_length (endings.Called length) = refl
says_length endings.Empty = refl
says_length endings.NoStrand = refl
says_length (endings.Rejected reason) = refl
says_length (endings.Disagreeing limit) = refl
says_length (endings.Refused refusal) = refl

-- only a duplex that is called has a length
length_where_called : (e : Ending) → called_length e ≡ cond (is_called e) (called_length e) 0
length_where_called (endings.Called length) = refl
length_where_called endings.Empty = refl
length_where_called endings.NoStrand = refl
length_where_called (endings.Rejected reason) = refl
length_where_called (endings.Disagreeing limit) = refl
length_where_called (endings.Refused refusal) = refl

-- what is counted where the steps call a duplex is counted where the answer is called
where_called : (answered : FamilyEnding) (e : Ending) → answered ≡ reported e → (count : ℕ) (of : ℕ → ℕ) → (is_called e ≡ true → count ≡ of (called_length e)) → cond (is_called e) count 0 ≡ cond (says_called answered) (of answered.length) 0
where_called answered e same count of known = rw (same, says_called_lem e, says_length e) (go (is_called e) known)
  where
    go : (b : Bool) → (b ≡ true → count ≡ of (called_length e)) → cond b count 0 ≡ cond b (of (called_length e)) 0
    go true known = known refl
    go false known = refl

-- a figure to which each call that is taken adds
module _ (figure : Ledger → ℕ) (gain : Made → ℕ) (adds : (l : Ledger) (m : Made) → Ten l → Taken m → figure (plus l (counted m.call)) ≡ figure l + gain m) where
  all_calls : (l : Ledger) (taken : List Made) → Ten l → Each Taken taken → figure (added_up l taken) ≡ figure l + total gain taken
  unfolding total added_up
  all_calls l [] ten each = omega arith
  all_calls l (m ∷ later) ten each = omega (arith, adds l m ten each.0, all_calls (plus l (counted m.call)) later (plus_ten l (counted m.call)) each.1)

  -- from a fresh ledger, where the figure is 0
  figure_is : figure fresh ≡ 0 → (taken : List Made) → Each Taken taken → figure (added_up fresh taken) ≡ total gain taken
  figure_is none taken each = omega (arith, all_calls fresh taken refl each, none)

module _ (taken : List Made) (each : Each Taken taken) where
  abbrev counts : Ledger
  counts = added_up fresh taken

  -- a figure to which each call adds where its answer meets a test
  figure_where : (figure : Ledger → ℕ) (test : FamilyEnding → Bool) (gain : Made → ℕ) → figure fresh ≡ 0
      → ((l : Ledger) (m : Made) → Ten l → Taken m → figure (plus l (counted m.call)) ≡ figure l + cond (test m.answer.ending) (gain m) 0)
      → figure counts ≡ total gain (filter (λ m. test m.answer.ending) taken)
  figure_where figure test gain none adds =
      figure_is figure (λ m. cond (test m.answer.ending) (gain m) 0) adds none taken each ∙ sym (total-filter gain (λ (m : Made). test m.answer.ending) taken)

  families_are : counts.families ≡ length taken
  unfolding plus counted counted_by
  families_are = figure_is Ledger.families (λ m. 1) (λ l m ten t. refl) refl taken each ∙ total_ones taken

  records_are : counts.records ≡ total (λ m. length m.call.records) taken
  unfolding plus counted counted_by
  records_are = figure_is Ledger.records (λ m. length m.call.records) (λ l m ten t. refl) refl taken each

  counters_are : (fate : ℕ) → 1 ≤ fate → fate ≤ 13 → counter fate counts ≡ total (λ m. with_fate fate (fates m.call)) taken
  counters_are fate some few =
      figure_is (counter fate) (λ m. with_fate fate (fates m.call))
      (λ l m ten t. counter-plus fate l (counted m.call) some ∙ ap (λ (n : ℕ). counter fate l + n) (counted_fate m.call fate some few))
      (counter-fresh fate) taken each

  -- the thirteen counters together
  abbrev all_fates : Ledger → ℕ
  all_fates l = filtered l + l.passed_over + l.no_strand + l.used

  together_is : all_fates counts ≡ counts.records
  unfolding plus
  together_is =
      figure_is all_fates (λ m. length m.call.records)
      (λ l m ten t. omega (arith, filtered-plus l (counted m.call) ten (counted_ten m.call), counted-all m.call (taken_fated t)))
      (rw filtered-fresh) taken each
      ∙ sym records_are

  called_are : counts.duplexes ≡ length (duplexes taken)
  unfolding plus counted counted_by
  called_are =
      figure_where Ledger.duplexes says_called (λ m. 1) refl (λ l m ten t. rw (t.ended, says_called_lem (ending m.call)))
      ∙ total_ones (duplexes taken)

  disagreeing_are : counts.disagreement_rejected ≡ length (disagreeing taken)
  unfolding plus counted counted_by
  disagreeing_are =
      figure_where Ledger.disagreement_rejected says_disagreeing (λ m. 1) refl (λ l m ten t. rw (t.ended, says_disagreeing_lem (ending m.call)))
      ∙ total_ones (disagreeing taken)

  bases_are : counts.bases ≡ total (λ m. m.answer.ending.length) (duplexes taken)
  unfolding plus counted counted_by
  bases_are =
      figure_where Ledger.bases says_called (λ m. m.answer.ending.length) refl
      (λ l m ten t. ap (λ (n : ℕ). l.bases + n) (length_where_called (ending m.call) ∙ where_called m.answer.ending (ending m.call) t.ended (called_length (ending m.call)) (λ (n : ℕ). n) (λ e. refl)))

  duplex_bases_are : counts.duplex_bases ≡ total (λ m. count_below (both_call (first_bases m) (second_bases m)) m.answer.ending.length) (duplexes taken)
  unfolding plus counted counted_by
  duplex_bases_are =
      figure_where Ledger.duplex_bases says_called (λ m. count_below (both_call (first_bases m) (second_bases m)) m.answer.ending.length) refl
      (λ l m ten t.
      ap (λ (n : ℕ). l.duplex_bases + n)
      (where_called m.answer.ending (ending m.call) t.ended (tally_between (frame m.call) m.call.r1 m.call.r2).bases (λ (n : ℕ). count_below (both_call (first_bases m) (second_bases m)) n)
      (λ e. (called-tally m.call e).0)))

  disagreements_are : counts.disagreements ≡ total (λ m. count_below (disagree (first_bases m) (second_bases m)) m.answer.ending.length) (duplexes taken)
  unfolding plus counted counted_by
  disagreements_are =
      figure_where Ledger.disagreements says_called (λ m. count_below (disagree (first_bases m) (second_bases m)) m.answer.ending.length) refl
      (λ l m ten t.
      ap (λ (n : ℕ). l.disagreements + n)
      (where_called m.answer.ending (ending m.call) t.ended (tally_between (frame m.call) m.call.r1 m.call.r2).disagreements (λ (n : ℕ). count_below (disagree (first_bases m) (second_bases m)) n)
      (λ e. (called-tally m.call e).1)))

  -- what a fresh ledger counts of a list of calls that are taken
  pub claims : Claims counts taken
  claims =
      record {
        fated = each_taken (λ m. Fated m.call) (λ m t. taken_fated t) taken each;
        counters = counters_are;
        together = together_is;
        records = records_are;
        families = families_are;
        called = called_are;
        bases = bases_are;
        disagreement_rejected = disagreeing_are;
        duplex_bases = duplex_bases_are;
        disagreements = disagreements_are;
      }

-- demand 3
pub conserved : (made : List Made) → Chain made → Conserved made
unfolding history
conserved made chain =
    let each = all-taken fresh made chain in
    record {
      history-figures = ap figures (follows fresh made chain);
      marks = each_taken (λ m. Marked m.call m.after.marks) (λ m t. taken_marked t) (unrefused made) each;
      claims = rw (adds_up fresh made chain) (claims (unrefused made) each);
    }
