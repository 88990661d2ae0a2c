-- What a call that is not refused counts.
use mathlib.Core.Bool.{Bool, true, false, cond}
use mathlib.Core.List.{List}
use mathlib.Core.Path.{◌≡◌, refl, sym, ◌∙◌, ap}
use Prim.Native.Nat.{ℕ, suc, ◌+◌, ◌-◌, ◌≤◌, ◌<◌}
use native.Mathlib.Omega.{arith}
use borrow.Author.Tests.{eqb-true, eqb-false, leb-true, leb-false}
use lib.Count.{ones}
use lib.Dec.{eqb, leb}
use lib.ListN.{length, get_or, take}
use Rattle.std.specs.Prelude.{Ok}
use Rattle.std.proofs.lemmas.Bool.{cond_both}
use Rattle.lists.specs.Tabulate.{tabulate}
use Rattle.lists.specs.Total.{total}
use Rattle.lists.specs.Written.{written}
use Rattle.lists.proofs.Tabulate.{length-tabulate, get_d_tabulate}
use Rattle.caller.specs.Reasons.{number_of}
use Rattle.caller.specs.declared.reason.RejectionReason.TheVariants.{Downsampled}
use Rattle.codec_duplex.specs.declared.tally.DuplexBaseTally.{DuplexBaseTally}
use Rattle.codec_framing.specs.Framing.{tally_of}
use Rattle.codec_framing.proofs.Tallies.{tally_of-within, tally_of_disagreements}
use Rattle.codec_rejects.specs.Fates.{with_fate, rejections}
use Rattle.codec_rejects.specs.Handover.{mark_words}
use Rattle.codec_rejects.proofs.Counting.{with_fate_few, rejections_few, rejections_parted, all_reasons, all-fates_parted}
use Rattle.codec_rejects.proofs.Marking.{marked_ones}
use Rattle.codec_stats.specs.Ledger.{counter, filtered, too_large, Addable}
use Rattle.codec_stats.specs.declared.ledger.Ledger.{Ledger}
use Rattle.codec_family.specs.Call.{Call, columns_of}
use Rattle.codec_family.specs.Counted.{ended_by_disagreement, counted_by, counted}
use Rattle.codec_family.specs.Ending.{is_called, frame, tally, ending}
use Rattle.codec_family.specs.Fates.{fates, Fated}
use Rattle.codec_family.specs.Refusals.{of_records}
use Rattle.codec_family.specs.declared.ending.Ending.{Ending}
use Rattle.codec_family.proofs.Called.{called_fits, called_short}
use Rattle.codec_family.proofs.Selected.{few_records}

module _ (c : Call) where
  pub counted_ten : length (counted c).reasons ≡ 10
  unfolding counted counted_by
  counted_ten = length-tabulate (λ i. with_fate (suc i) (fates c)) 10

  -- the thirteen counters of a call are its records
  pub counted-all : Fated c → filtered (counted c) + (counted c).passed_over + (counted c).no_strand + (counted c).used ≡ length c.records
  unfolding counted counted_by filtered
  counted-all fated =
      all-fates_parted (fates c) (λ i below. (fated.decided i (rw (← fated.one_each) below)).1) (λ i below. (fated.decided i (rw (← fated.one_each) below)).0) ∙ fated.one_each

  -- the rejections of a call are what it adds to filtered
  pub counted-rejections : filtered (counted c) ≡ rejections (fates c)
  unfolding counted counted_by filtered
  counted-rejections = all_reasons (fates c)

  -- the counter of a fate is the number of records that have it
  pub counted_fate : (fate : ℕ) → 1 ≤ fate → fate ≤ 13 → counter fate (counted c) ≡ with_fate fate (fates c)
  unfolding counter counted counted_by
  counted_fate fate some few = go (leb fate 10) refl (eqb fate 11) refl (eqb fate 12) refl (eqb fate 13) refl
    where
      go : (reason : Bool) → leb fate 10 ≡ reason → (over : Bool) → eqb fate 11 ≡ over → (strand : Bool) → eqb fate 12 ≡ strand → (used' : Bool) → eqb fate 13 ≡ used'
          → cond reason (get_or (tabulate (λ i. with_fate (suc i) (fates c)) 10) (fate - 1) 0) (cond over (with_fate 11 (fates c)) (cond strand (with_fate 12 (fates c)) (cond used' (with_fate 13 (fates c)) 0)))
          ≡ with_fate fate (fates c)
      go true e over f strand g used' h =
          let within : fate ≤ 10 = leb-true fate 10 e in
          let place : suc (fate - 1) ≡ fate = omega arith in
          get_d_tabulate (λ i. with_fate (suc i) (fates c)) 10 (fate - 1) 0 (omega arith) ∙ ap (λ (k : ℕ). with_fate k (fates c)) place
      go false e true f strand g used' h = ap (λ (k : ℕ). with_fate k (fates c)) (sym (eqb-true fate 11 f))
      go false e false f true g used' h = ap (λ (k : ℕ). with_fate k (fates c)) (sym (eqb-true fate 12 g))
      go false e false f false g true h = ap (λ (k : ℕ). with_fate k (fates c)) (sym (eqb-true fate 13 h))
      go false e false f false g false h =
          let above : 10 < fate = leb-false fate 10 e in
          let not-11 = eqb-false fate 11 f in
          let not-12 = eqb-false fate 12 g in
          let not-13 = eqb-false fate 13 h in
          absurd (omega (arith, not-11, not-12, not-13))

one_or-none : (b : Bool) → cond b 1 0 ≤ 1
one_or-none true = omega arith
one_or-none false = omega arith

-- what one call can add
pub record Few (l : Ledger) : Type 0 where
  pub families : l.families ≡ 1
  pub records : l.records ≤ 512
  pub reasons : (i : ℕ) → i < 10 → get_or l.reasons i 0 ≤ 512
  pub passed_over : l.passed_over ≤ 512
  pub no_strand : l.no_strand ≤ 512
  pub used : l.used ≤ 512
  pub rejected : l.disagreement_rejected ≤ 1
  pub duplexes : l.duplexes ≤ 1
  pub bases : l.bases ≤ 2047
  pub duplex_bases : l.duplex_bases ≤ 2047
  pub disagreements : l.disagreements ≤ 2047

module _ (c : Call) (none : of_records c ≡ Ok tt) (fated : Fated c) where
  few_with : (fate : ℕ) → with_fate fate (fates c) ≤ 512
  few_with fate = omega (arith, with_fate_few fate (fates c), fated.one_each, few_records c none)

  few_called : (tally : ℕ) → (is_called (ending c) ≡ true → tally ≤ (frame c).length) → cond (is_called (ending c)) tally 0 ≤ 2047
  few_called tally within =
      cond_both (is_called (ending c)) _ _ (λ (n : ℕ). n ≤ 2047) (λ e. omega (arith, within e, (called_fits c e).long, called_short c none)) (λ _. omega arith)

  pub counted_few : Few (counted c)
  unfolding counted counted_by
  counted_few =
      let first = (columns_of c.r1).bases in
      let second = (columns_of c.r2).bases in
      let within : is_called (ending c) ≡ true → (tally_of (frame c) first second).bases ≤ (frame c).length = λ e. tally_of-within (frame c) first second (called_fits c e).r1_fits in
      record {
        families = refl;
        records = few_records c none;
        reasons = λ i h. rw (get_d_tabulate (λ k. with_fate (suc k) (fates c)) 10 i 0 h) (few_with (suc i));
        passed_over = few_with 11;
        no_strand = few_with 12;
        used = few_with 13;
        rejected = one_or-none (ended_by_disagreement (ending c));
        duplexes = one_or-none (is_called (ending c));
        bases = called_short c none;
        duplex_bases = few_called (tally_of (frame c) first second).bases within;
        disagreements = few_called (tally_of (frame c) first second).disagreements (λ e. omega (arith, within e, tally_of_disagreements (frame c) first second));
      }

-- so it can be added to a ledger that is not refused
pub few_addable : (l more : Ledger) → too_large l ≡ false → Few more → Addable l more
few_addable l more small f =
    record {
      within = small;
      families = omega (arith, f.families);
      records = omega (arith, f.records);
      reasons = λ i h. omega (arith, f.reasons i h);
      passed_over = omega (arith, f.passed_over);
      no_strand = omega (arith, f.no_strand);
      used = omega (arith, f.used);
      rejected = omega (arith, f.rejected);
      duplexes = omega (arith, f.duplexes);
      bases = omega (arith, f.bases);
      duplex_bases = omega (arith, f.duplex_bases);
      disagreements = omega (arith, f.disagreements);
    }

-- 'Downsampled, counted and never marked': the counter that the list's length looks at
downsampled : (fates : List ℕ) (e : Ending) (t : DuplexBaseTally) → get_or (counted_by (length fates) fates e t).reasons 4 0 ≡ with_fate (number_of Downsampled) fates
unfolding counted_by
downsampled fates e t = get_d_tabulate (λ i. with_fate (suc i) fates) 10 4 0 (omega arith)

pub few_downsampled : (fates : List ℕ) (e : Ending) (t : DuplexBaseTally) → length fates ≤ 512 → get_or (counted_by (length fates) fates e t).reasons 4 0 ≤ 512
few_downsampled fates e t few = omega (arith, downsampled fates e t, with_fate_few (number_of Downsampled) fates)

pub few_marks : (fates old : List ℕ) → length fates ≤ 512 → total ones (take 8 (written (mark_words fates) old)) ≤ 512
few_marks fates old few = omega (arith, marked_ones fates old few, rejections_parted fates, rejections_few fates)

-- the list has an entry for each mark, and for each record that was downsampled
pub listed-length : (fates : List ℕ) (e : Ending) (t : DuplexBaseTally) (old : List ℕ) → length fates ≤ 512
    → total ones (take 8 (written (mark_words fates) old)) + get_or (counted_by (length fates) fates e t).reasons 4 0 ≡ rejections fates
listed-length fates e t old few = omega (arith, marked_ones fates old few, downsampled fates e t, rejections_parted fates)
