-- Laws of counting the numbers below a bound that meet a test.
use mathlib.Core.Bool.{Bool, true, false, cond, not}
use mathlib.Core.Logic.{⊎_elim}
use mathlib.Core.Path.{◌≡◌, refl}
use Prim.Native.Nat.{ℕ, zero, suc, ◌+◌, ◌≤◌, ◌<◌, zero-le}
use native.Mathlib.Nat.{add-zero, eq-or-lt_of_le, le_of_suc-le-suc}
use native.Mathlib.Numerals.{add-one}
use native.Mathlib.Omega.{arith}
use borrow.Author.Tests.{eq-eqb, ne_eqb}
use lib.Dec.{eqb}
use Rattle.std.proofs.lemmas.List.{map-id}
use Rattle.std.proofs.lemmas.List.FromFn.{length-range_with_len, sum_by-map-range_with_len_more}
use Rattle.std.proofs.lemmas.List.Sums.{count_by-le-length}
use Rattle.std.specs.List.{range_with_len}
use Rattle.lists.specs.Count.{count_below}

-- one number more, whether or not it meets the test
pub count_more : (test : ℕ → Bool) (n : ℕ) → count_below test (n + 1) ≡ count_below test n + cond (test n) 1 0
unfolding count_below
count_more test n =
    let more = sum_by-map-range_with_len_more (λ k. cond (test k) 1 0) (λ (k : ℕ). k) 0 n n (omega arith) in
    simp map-id at more

pub count-suc : (test : ℕ → Bool) (n : ℕ) → count_below test (suc n) ≡ count_below test n + cond (test n) 1 0
count-suc test n = rw add-one at (count_more test n)

-- one number more, that meets the test
pub count_yes : (test : ℕ → Bool) (n : ℕ) → test n ≡ true → count_below test (n + 1) ≡ count_below test n + 1
count_yes test n h = rw (count_more, h)

-- one number more, that does not
pub count_no : (test : ℕ → Bool) (n : ℕ) → test n ≡ false → count_below test (n + 1) ≡ count_below test n
count_no test n h = rw (count_more, h) (add-zero (count_below test n))

pub count-le : (test : ℕ → Bool) (n : ℕ) → count_below test n ≤ n
unfolding count_below
count-le test n = let within = count_by-le-length test (range_with_len 0 n) in rw length-range_with_len at within

-- tests that agree count alike
pub count_same : (test other : ℕ → Bool) (n : ℕ) → ((k : ℕ) → k < n → test k ≡ other k) → count_below test n ≡ count_below other n
unfolding count_below
count_same test other zero same = refl
count_same test other (suc n) same =
    rw (count-suc, count-suc, same n (omega arith), count_same test other n (λ k h. same k (omega arith)))

-- each number meets the test or does not
pub count-both : (test : ℕ → Bool) (n : ℕ) → count_below test n + count_below (λ k. not (test k)) n ≡ n
unfolding count_below
count-both test zero = refl
count-both test (suc n) =
    rw (count-suc, count-suc) (omega (arith, count-both test n, one (test n)))
  where
    one : (b : Bool) → cond b 1 0 + cond (not b) 1 0 ≡ 1
    one true = refl
    one false = refl

-- without one of the numbers that meet the test
count-without : (test : ℕ → Bool) (x n : ℕ) → x < n → test x ≡ true → count_below test n ≡ suc (count_below (λ k. cond (eqb k x) false (test k)) n)
count-without test x zero h meets = absurd (omega arith)
count-without test x (suc n) h meets =
    rw (count-suc, count-suc)
    (⊎_elim
    (λ here.
    let others = count_same test (λ k. cond (eqb k x) false (test k)) x (λ k below. rw (ne_eqb k x (λ e. omega arith))) in
    rw (← here, eq-eqb x x refl, meets) (omega (arith, others)))
    (λ before. rw (ne_eqb n x (λ e. omega arith)) (omega (arith, count-without test x n before meets)))
    (eq-or-lt_of_le (le_of_suc-le-suc h)))

-- where every number that meets a test is sent to one of its own that meets another
pub count_into : (test other : ℕ → Bool) (f : ℕ → ℕ) (m n : ℕ)
    → ((i : ℕ) → i < m → test i ≡ true → (f i < n) × (other (f i) ≡ true))
    → ((i j : ℕ) → i < m → j < m → test i ≡ true → test j ≡ true → f i ≡ f j → i ≡ j)
    → count_below test m ≤ count_below other n
unfolding count_below
count_into test other f zero n sent apart = zero-le
count_into test other f (suc m) n sent apart =
    rw count-suc (go (test m) refl (λ left sent. count_into test left f m n sent (λ i j h k. apart i j (omega arith) (omega arith))))
  where
    Sent : (ℕ → Bool) → Type 0
    Sent left = (i : ℕ) → i < m → test i ≡ true → (f i < n) × (left (f i) ≡ true)

    go : (b : Bool) → test m ≡ b → ((left : ℕ → Bool) → Sent left → count_below test m ≤ count_below left n) → count_below test m + cond b 1 0 ≤ count_below other n
    go true e fewer =
        let own = sent m (omega arith) e in
        let others = fewer (λ k. cond (eqb k (f m)) false (other k)) (λ i below meets.
        let t = sent i (omega arith) meets in
        (t.0, rw (ne_eqb (f i) (f m) (λ same. let last : i ≡ m = apart i m (omega arith) (omega arith) meets e same in omega arith)) t.1)) in
        omega (arith, count-without other (f m) n own.0 own.1)
    go false e fewer = omega (arith, fewer other (λ i below. sent i (omega arith)))
