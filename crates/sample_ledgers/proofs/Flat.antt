-- Laws of the samples' array: one ledger read out, one put back, and nothing else is in it.
use mathlib.Core.Bool.{Bool, true, false}
use mathlib.Core.List.{List, [], ◌∷◌}
use mathlib.Core.Path.{◌≡◌, refl, sym, ◌∙◌, ap}
use Prim.Native.Nat.{ℕ, zero, suc, ◌+◌, ◌*◌, ◌/◌, ◌%◌, ◌≤◌, ◌<◌}
use native.Mathlib.Omega.{arith}
use borrow.Author.Tests.{ltb-true, ltb-false}
use lib.Dec.{ltb}
use borrow.Rule.Slice.PartMut.{put_mid}
use lib.ListN.{length, get_or, set, take, drop, length-set, replicate, length-replicate}
use lib.Seq.{sets, get_or-take, get_or-drop, get_or-set_same, get_or-set_other, ext_get_or}
use Rattle.lists.specs.Tabulate.{tabulate}
use Rattle.lists.proofs.Places.{get_d_repeated}
use Rattle.lists.proofs.Tabulate.{length-tabulate, get_d_tabulate, tabulate_get_d, set-tabulate, tabulate-same}
use Rattle.lists.proofs.Sets.{put_mid-sets}
use Rattle.codec_stats.specs.Ledger.{Counts, fresh}
use Rattle.codec_stats.specs.Counts.{counts_of, ledger_by, ledger_of}
use Rattle.codec_stats.proofs.Counts.{ledger_same, length_counts, ledger_counts, counts_ledger}
use Rattle.sample_ledgers.specs.Samples.{sample_total, ledger_at, samples_of, flat_of}
use Rattle.codec_stats.specs.declared.ledger.Ledger.{Ledger}

-- twenty places that are copied are the counts of a ledger
pub ledger_copied : (flat : List ℕ) (s n : ℕ) (counts : List ℕ) → n ≡ 20 → 20 * s + 20 ≤ length flat → counts ≡ take n (drop (20 * s) flat) → ledger_of counts ≡ ledger_at flat s
ledger_copied flat s n counts twenty fits copied =
    ledger_same (λ j. get_or counts j 0) (λ j. get_or flat (20 * s + j) 0)
    (λ j h. rw (copied, twenty, get_or-take 20 (drop (20 * s) flat) j 0 h, get_or-drop (20 * s) flat j 0))

-- and the counts of a ledger that are copied over them are stored
pub counts_put : (flat : List ℕ) (s : ℕ) (l : Ledger) (n : ℕ) (counts : List ℕ) → n ≡ 20 → 20 * s + 20 ≤ length flat → counts ≡ counts_of l → put_mid (20 * s) n flat counts ≡ sets flat (20 * s) (counts_of l)
counts_put flat s l n counts twenty fits same =
    rw (same, twenty) (put_mid-sets (20 * s) 20 flat (counts_of l) (length_counts l) fits)

-- a run of stores, read
pub get_d_sets_before : (vs l : List ℕ) (i k d : ℕ) → k < i → get_or (sets l i vs) k d ≡ get_or l k d
get_d_sets_before [] l i k d h = refl
get_d_sets_before (v ∷ vs) l i k d h = get_d_sets_before vs (set l i v) (suc i) k d (omega arith) ∙ get_or-set_other l i k v d (λ e. omega arith)

pub get_d_sets_behind : (vs l : List ℕ) (i k d : ℕ) → i + length vs ≤ k → get_or (sets l i vs) k d ≡ get_or l k d
get_d_sets_behind [] l i k d h = refl
get_d_sets_behind (v ∷ vs) l i k d h = get_d_sets_behind vs (set l i v) (suc i) k d (omega arith) ∙ get_or-set_other l i k v d (λ e. omega arith)

pub get_d_sets_in : (vs l : List ℕ) (i j d : ℕ) → j < length vs → i + length vs ≤ length l → get_or (sets l i vs) (i + j) d ≡ get_or vs j d
get_d_sets_in [] l i j d h fits = absurd (omega arith)
get_d_sets_in (v ∷ vs) l i zero d h fits =
    let here : i + 0 ≡ i = omega arith in
    rw here (get_d_sets_before vs (set l i v) (suc i) i d (omega arith) ∙ get_or-set_same l i v d (omega arith))
get_d_sets_in (v ∷ vs) l i (suc j) d h fits =
    let there : i + suc j ≡ suc i + j = omega arith in
    rw there (get_d_sets_in vs (set l i v) (suc i) j d (omega arith) (omega (arith, length-set l i v)))

-- no counts at all
no_counts : ledger_by (λ j. 0) ≡ fresh
unfolding ledger_by tabulate
no_counts = refl

all_same : (n : ℕ) → tabulate (λ s. fresh) n ≡ replicate n fresh
all_same n =
    ext_get_or fresh (tabulate (λ s. fresh) n) (replicate n fresh) (length-tabulate (λ s. fresh) n ∙ sym (length-replicate n fresh))
    (λ i h. get_d_tabulate (λ s. fresh) n i fresh (rw (length-tabulate (λ s. fresh) n) at h) ∙ sym (get_d_repeated {A = Counts} n i fresh))

-- one ledger read out
pub sample_read_lem : (flat : List ℕ) (s : ℕ) → s < sample_total → get_or (samples_of flat) s fresh ≡ ledger_at flat s
unfolding samples_of
sample_read_lem flat s h = get_d_tabulate (ledger_at flat) sample_total s fresh h

pub length-samples : (flat : List ℕ) → length (samples_of flat) ≡ sample_total
unfolding samples_of
length-samples flat = length-tabulate (ledger_at flat) sample_total

-- an array of zeros holds fresh ledgers
pub samples-fresh : samples_of (replicate 1920 0) ≡ replicate sample_total fresh
unfolding samples_of
samples-fresh =
    tabulate-same (ledger_at (replicate 1920 0)) (λ s. fresh) sample_total
    (λ s h. ledger_same (λ j. get_or (replicate 1920 0) (20 * s + j) 0) (λ j. 0) (λ j h. get_d_repeated {A = ℕ} 1920 (20 * s + j) 0) ∙ no_counts)
    ∙ all_same sample_total

-- one ledger put back: its 20 counts stored from place 20 s on
pub sample_put : (flat : List ℕ) (s : ℕ) (l : Ledger) → length flat ≡ 1920 → s < sample_total → length l.reasons ≡ 10
    → samples_of (sets flat (20 * s) (counts_of l)) ≡ set (samples_of flat) s l
unfolding samples_of
sample_put flat s l size below ten =
    sym (set-tabulate (ledger_at flat) (ledger_at (sets flat (20 * s) (counts_of l))) sample_total s l below here others)
  where
    after : List ℕ
    after = sets flat (20 * s) (counts_of l)

    here : ledger_at after s ≡ l
    here =
        ledger_same (λ j. get_or after (20 * s + j) 0) (λ j. get_or (counts_of l) j 0)
        (λ j h. get_d_sets_in (counts_of l) flat (20 * s) j 0 (omega (arith, length_counts l)) (omega (arith, length_counts l, size)))
        ∙ ledger_counts l ten

    others : (k : ℕ) → (k ≡ s → ⊥) → ledger_at after k ≡ ledger_at flat k
    others k differ = ledger_same (λ j. get_or after (20 * k + j) 0) (λ j. get_or flat (20 * k + j) 0) (λ j h. by_side j h (ltb k s) refl)
      where
        by_side : (j : ℕ) → j < 20 → (b : Bool) → ltb k s ≡ b → get_or after (20 * k + j) 0 ≡ get_or flat (20 * k + j) 0
        by_side j h true e =
            let low : k < s = ltb-true k s e in
            get_d_sets_before (counts_of l) flat (20 * s) (20 * k + j) 0 (omega arith)
        by_side j h false e =
            let high : s ≤ k = ltb-false k s e in
            get_d_sets_behind (counts_of l) flat (20 * s) (20 * k + j) 0 (omega (arith, length_counts l, differ))

-- nothing else is in the array: it is fixed by the ledgers that it holds
pub flat_samples : (flat : List ℕ) → length flat ≡ 1920 → flat_of (samples_of flat) ≡ flat
unfolding flat_of
flat_samples flat size =
    tabulate-same (λ i. get_or (counts_of (get_or (samples_of flat) (i / 20) fresh)) (i % 20) 0) (λ i. get_or flat i 0) 1920 place
    ∙ ap (tabulate (λ i. get_or flat i 0)) (sym size)
    ∙ tabulate_get_d flat 0
  where
    place : (i : ℕ) → i < 1920 → get_or (counts_of (get_or (samples_of flat) (i / 20) fresh)) (i % 20) 0 ≡ get_or flat i 0
    place i h =
        let own : get_or (samples_of flat) (i / 20) fresh ≡ ledger_at flat (i / 20) = sample_read_lem flat (i / 20) (omega arith) in
        let whole : 20 * (i / 20) + i % 20 ≡ i = omega arith in
        rw own (counts_ledger (λ j. get_or flat (20 * (i / 20) + j) 0) (i % 20) (omega arith) ∙ ap (λ (k : ℕ). get_or flat k 0) whole)

pub flat_fixed : (flat other : List ℕ) → length flat ≡ 1920 → length other ≡ 1920 → samples_of flat ≡ samples_of other → flat ≡ other
flat_fixed flat other size also same = sym (flat_samples flat size) ∙ ap flat_of same ∙ flat_samples other also
