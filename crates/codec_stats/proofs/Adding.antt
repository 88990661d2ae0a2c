-- Laws of adding counts.
use mathlib.Core.Bool.{Bool, true, false, cond}
use mathlib.Core.Path.{◌≡◌, refl, ◌∙◌}
use Prim.Native.Nat.{ℕ, ◌+◌, ◌-◌, ◌≤◌, ◌<◌}
use native.Mathlib.Omega.{arith}
use borrow.Author.Tests.{leb-true}
use lib.Dec.{eqb, leb}
use lib.ListN.{length, get_or, replicate}
use Rattle.lists.specs.Tabulate.{tabulate}
use Rattle.lists.specs.Total.{total}
use Rattle.lists.proofs.Places.{get_d_repeated}
use Rattle.lists.proofs.Tabulate.{length-tabulate, get_d_tabulate, tabulate-same}
use Rattle.lists.proofs.Total.{total-plus, total_places}
use Rattle.codec_stats.specs.Ledger.{fresh, counter, filtered, plus}
use Rattle.codec_stats.specs.declared.ledger.Ledger.{Ledger}

-- a ledger has ten reasons
pub plus_ten : (l more : Ledger) → length (plus l more).reasons ≡ 10
unfolding plus
plus_ten l more = length-tabulate (λ i. get_or l.reasons i 0 + get_or more.reasons i 0) 10

-- a fresh ledger has counted no record
pub counter-fresh : (fate : ℕ) → counter fate fresh ≡ 0
unfolding counter
counter-fresh fate = go (leb fate 10) (eqb fate 11) (eqb fate 12) (eqb fate 13)
  where
    go : (reason over strand used' : Bool) → ◌≡◌ {A = ℕ} (cond reason (get_or (replicate 10 0) (fate - 1) 0) (cond over 0 (cond strand 0 (cond used' 0 0)))) 0
    go true over strand used' = get_d_repeated 10 (fate - 1) 0
    go false true strand used' = refl
    go false false true used' = refl
    go false false false true = refl
    go false false false false = refl

pub filtered-fresh : filtered fresh ≡ 0
unfolding filtered total
filtered-fresh = refl

-- the counter of each fate adds up
pub counter-plus : (fate : ℕ) (l more : Ledger) → 1 ≤ fate → counter fate (plus l more) ≡ counter fate l + counter fate more
unfolding counter plus
counter-plus fate l more some = go (leb fate 10) refl (eqb fate 11) (eqb fate 12) (eqb fate 13)
  where
    go : (reason : Bool) → leb fate 10 ≡ reason → (over strand used' : Bool)
        → cond reason (get_or (tabulate (λ i. get_or l.reasons i 0 + get_or more.reasons i 0) 10) (fate - 1) 0) (cond over (l.passed_over + more.passed_over) (cond strand (l.no_strand + more.no_strand) (cond used' (l.used + more.used) 0)))
        ≡ cond reason (get_or l.reasons (fate - 1) 0) (cond over l.passed_over (cond strand l.no_strand (cond used' l.used 0)))
        + cond reason (get_or more.reasons (fate - 1) 0) (cond over more.passed_over (cond strand more.no_strand (cond used' more.used 0)))
    go true e over strand used' =
        let few : fate ≤ 10 = leb-true fate 10 e in
        get_d_tabulate (λ i. get_or l.reasons i 0 + get_or more.reasons i 0) 10 (fate - 1) 0 (omega arith)
    go false e true strand used' = refl
    go false e false true used' = refl
    go false e false false true = refl
    go false e false false false = refl

-- filtered adds up
pub filtered-plus : (l more : Ledger) → length l.reasons ≡ 10 → length more.reasons ≡ 10 → filtered (plus l more) ≡ filtered l + filtered more
unfolding filtered plus
filtered-plus l more ten also =
    total-plus (λ i. get_or l.reasons i 0) (λ i. get_or more.reasons i 0) 10
    ∙ rw (total_places l.reasons 10 ten, total_places more.reasons 10 also)

-- each reason adds up
pub reason_plus : (l more : Ledger) (i : ℕ) → i < 10 → get_or (plus l more).reasons i 0 ≡ get_or l.reasons i 0 + get_or more.reasons i 0
unfolding plus
reason_plus l more i h = get_d_tabulate (λ k. get_or l.reasons k 0 + get_or more.reasons k 0) 10 i 0 h

grouped : (x y z : ℕ) → x + (y + z) ≡ x + y + z
grouped x y z = omega arith

swapped : (x y z : ℕ) → x + y + z ≡ x + z + y
swapped x y z = omega arith

reasons_grouped : (a b c : Ledger) → tabulate (λ i. get_or a.reasons i 0 + get_or (plus b c).reasons i 0) 10 ≡ tabulate (λ i. get_or (plus a b).reasons i 0 + get_or c.reasons i 0) 10
reasons_grouped a b c =
    tabulate-same (λ i. get_or a.reasons i 0 + get_or (plus b c).reasons i 0) (λ i. get_or (plus a b).reasons i 0 + get_or c.reasons i 0) 10
    (λ i h. rw (reason_plus b c i h, reason_plus a b i h) (grouped (get_or a.reasons i 0) (get_or b.reasons i 0) (get_or c.reasons i 0)))

reasons_swapped : (a b c : Ledger) → tabulate (λ i. get_or (plus a b).reasons i 0 + get_or c.reasons i 0) 10 ≡ tabulate (λ i. get_or (plus a c).reasons i 0 + get_or b.reasons i 0) 10
reasons_swapped a b c =
    tabulate-same (λ i. get_or (plus a b).reasons i 0 + get_or c.reasons i 0) (λ i. get_or (plus a c).reasons i 0 + get_or b.reasons i 0) 10
    (λ i h. rw (reason_plus a b i h, reason_plus a c i h) (swapped (get_or a.reasons i 0) (get_or b.reasons i 0) (get_or c.reasons i 0)))

-- counts add up in any grouping and in any order
pub plus-grouped : (a b c : Ledger) → plus a (plus b c) ≡ plus (plus a b) c
unfolding plus
plus-grouped a b c = λ k.
    record {
      families = grouped a.families b.families c.families k;
      records = grouped a.records b.records c.records k;
      reasons = reasons_grouped a b c k;
      passed_over = grouped a.passed_over b.passed_over c.passed_over k;
      no_strand = grouped a.no_strand b.no_strand c.no_strand k;
      used = grouped a.used b.used c.used k;
      disagreement_rejected = grouped a.disagreement_rejected b.disagreement_rejected c.disagreement_rejected k;
      duplexes = grouped a.duplexes b.duplexes c.duplexes k;
      bases = grouped a.bases b.bases c.bases k;
      duplex_bases = grouped a.duplex_bases b.duplex_bases c.duplex_bases k;
      disagreements = grouped a.disagreements b.disagreements c.disagreements k;
    }

pub plus-swapped : (a b c : Ledger) → plus (plus a b) c ≡ plus (plus a c) b
unfolding plus
plus-swapped a b c = λ k.
    record {
      families = swapped a.families b.families c.families k;
      records = swapped a.records b.records c.records k;
      reasons = reasons_swapped a b c k;
      passed_over = swapped a.passed_over b.passed_over c.passed_over k;
      no_strand = swapped a.no_strand b.no_strand c.no_strand k;
      used = swapped a.used b.used c.used k;
      disagreement_rejected = swapped a.disagreement_rejected b.disagreement_rejected c.disagreement_rejected k;
      duplexes = swapped a.duplexes b.duplexes c.duplexes k;
      bases = swapped a.bases b.bases c.bases k;
      duplex_bases = swapped a.duplex_bases b.duplex_bases c.duplex_bases k;
      disagreements = swapped a.disagreements b.disagreements c.disagreements k;
    }
