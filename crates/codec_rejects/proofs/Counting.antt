-- How many records have each fate. A record has one fate, so the counts of some fates sum to the records that have one of them.
use mathlib.Core.Bool.{Bool, true, false, cond, not, ◌&&◌}
use mathlib.Core.List.{List, [], ◌∷◌}
use mathlib.Core.Path.{◌≡◌, refl, sym, ◌∙◌}
use Prim.Native.Nat.{ℕ, suc, ◌+◌, ◌≤◌, ◌<◌}
use native.Mathlib.Omega.{arith}
use borrow.Author.Tests.{eqb-true, eq-eqb, ne_eqb, le-leb, lt-ltb}
use lib.Dec.{eqb, leb-suc-suc}
use lib.ListN.{length, get_or, set, take, drop}
use Rattle.lists.specs.Tabulate.{tabulate}
use Rattle.lists.specs.Total.{total}
use Rattle.lists.proofs.Counted.{counts_among}
use Rattle.lists.proofs.Tabulate.{get_d_tabulate, set-tabulate}
use Rattle.lists.proofs.Total.{total_few, total_more, total_ones, total-same}
use Rattle.caller.specs.Fates.{passed_over_number, no_strand_number, used_number, is_rejection}
use Rattle.caller.specs.Reasons.{number_of}
use Rattle.caller.specs.declared.reason.RejectionReason.TheVariants.{Downsampled}
use Rattle.codec_rejects.specs.Fates.{AreFates, with_fate, rejections, marked_rejections, fate_counts}

-- those that meet a test are at most all
meeting_few : (test : ℕ → Bool) (fates : List ℕ) → total (λ fate. cond (test fate) 1 0) fates ≤ length fates
meeting_few test fates = total_few (λ fate. cond (test fate) 1 0) fates (λ fate. few (test fate))
  where
    few : (b : Bool) → cond b 1 0 ≤ 1
    few true = omega arith
    few false = omega arith

pub with_fate_few : (fate : ℕ) (fates : List ℕ) → with_fate fate fates ≤ length fates
unfolding with_fate
with_fate_few fate fates = meeting_few (λ own. eqb own fate) fates

pub rejections_few : (fates : List ℕ) → rejections fates ≤ length fates
unfolding rejections
rejections_few fates = meeting_few is_rejection fates

-- the entry of a fate
pub counts_at : (fates : List ℕ) (fate : ℕ) → fate < 14 → get_or (fate_counts fates) fate 0 ≡ with_fate fate fates
counts_at fates fate h = get_d_tabulate (λ own. with_fate own fates) 14 fate 0 h

-- one record more
pub counts_more : (fates : List ℕ) (i : ℕ) {counts : List ℕ} → i < length fates → get_or fates i 0 < 14 → counts ≡ fate_counts (take i fates)
    → set counts (get_or fates i 0) (get_or counts (get_or fates i 0) 0 + 1) ≡ fate_counts (take (i + 1) fates)
unfolding with_fate
counts_more fates i {counts} h known e =
    rw (e, counts_at (take i fates) own known)
    (set-tabulate (λ fate. with_fate fate (take i fates)) (λ fate. with_fate fate (take (i + 1) fates)) 14 own (with_fate own (take i fates) + 1) known
    (more own ∙ rw (eq-eqb own own refl))
    (λ fate differ. more fate ∙ rw (ne_eqb own fate (λ same. differ (sym same))) (omega arith)))
  where
    own : ℕ
    own = get_or fates i 0

    more : (fate : ℕ) → with_fate fate (take (i + 1) fates) ≡ with_fate fate (take i fates) + cond (eqb own fate) 1 0
    more fate = total_more (λ x. cond (eqb x fate) 1 0) fates i 0 h

-- 'Downsampled, counted and never marked': the other rejections are marked
pub rejections_parted : (fates : List ℕ) → rejections fates ≡ marked_rejections fates + with_fate (number_of Downsampled) fates
unfolding rejections marked_rejections with_fate total
rejections_parted [] = refl
rejections_parted (fate ∷ fates) = omega (arith, one (eqb fate 5) refl, rejections_parted fates)
  where
    one : (down : Bool) → eqb fate 5 ≡ down → cond (is_rejection fate) 1 0 ≡ cond (is_rejection fate && not down) 1 0 + cond down 1 0
    one true e = rw (eqb-true fate 5 e)
    one false e = keeps (is_rejection fate)
      where
        keeps : (b : Bool) → cond b 1 0 ≡ cond (b && true) 1 0 + 0
        keeps true = refl
        keeps false = refl

module _ (fates : List ℕ) where
  -- the counts of the ten reasons are the rejections
  pub all_reasons : total (λ n. n) (tabulate (λ i. with_fate (suc i) fates) 10) ≡ rejections fates
  unfolding with_fate rejections tabulate total
  all_reasons = counts_among 1 10 fates ∙ total-same _ _ 0 fates (λ i h. rw (leb-suc-suc (get_or fates i 0) 10))

  -- the thirteen counts are the records, where each has a fate
  pub all-fates : AreFates fates → ((i : ℕ) → i < length fates → 1 ≤ get_or fates i 0) → total (λ n. n) (drop 1 (fate_counts fates)) ≡ length fates
  unfolding with_fate tabulate total
  all-fates known decided =
      counts_among 1 13 fates
      ∙ total-same _ (λ _. 1) 0 fates (λ i h. rw (le-leb 1 (get_or fates i 0) (decided i h), lt-ltb (get_or fates i 0) 14 (omega (arith, known i h))))
      ∙ total_ones fates

  -- the same, as a ledger parts them: the ten reasons, passed over, no strand, used
  pub all-fates_parted : AreFates fates → ((i : ℕ) → i < length fates → 1 ≤ get_or fates i 0)
      → total (λ n. n) (tabulate (λ i. with_fate (suc i) fates) 10) + with_fate passed_over_number fates + with_fate no_strand_number fates + with_fate used_number fates ≡ length fates
  unfolding tabulate total
  all-fates_parted known decided = omega (arith, all-fates known decided)
