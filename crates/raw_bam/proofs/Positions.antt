-- Laws of the read position.
use mathlib.Core.Bool.{Bool, true, false, cond, ◌&&◌, ◌||◌, or_assoc, or-false, false≢true}
use mathlib.Core.List.{List, [], ◌∷◌, ◌++◌, append_assoc}
use mathlib.Core.Path.{◌≡◌, refl, sym}
use Prim.Native.Nat.{ℕ, ◌+◌, ◌-◌, ◌≤◌, ◌<◌}
use native.Mathlib.Numerals.{add-one}
use native.Mathlib.Omega.{arith}
use borrow.Author.Tests.{ltb-true, lt-ltb, le-ltb}
use lib.Dec.{ltb}
use lib.ListN.{length, take, drop, get_or}
use lib.Seq.{take-suc, drop-cons}
use Rattle.std.proofs.lemmas.Bool.{cond_both, and_parts}
use Rattle.std.proofs.Common.{Option, Some, None, IfSome}
use Rattle.lists.specs.Total.{total}
use Rattle.lists.proofs.Total.{total-append}
use Rattle.raw_bam.specs.Cigar.{op_length, op_code, read_bases, read_length, reference_bases, reference_length}
use Rattle.raw_bam.specs.Operations.{consumes_read, consumes_reference}
use Rattle.raw_bam.specs.ReadPosition.{is_aligned, has_aligned_base, has_aligned, inside, read_position_at, read_position}

-- one operation more: M, = or X came before it, or it is one itself
pub has_aligned_more : (words : List ℕ) (word : ℕ) → has_aligned (words ++ (word ∷ [])) ≡ has_aligned words || has_aligned_base word
unfolding has_aligned
has_aligned_more [] word = or-false (has_aligned_base word)
has_aligned_more (first ∷ words) word = rw (has_aligned_more words word) (sym (or_assoc (has_aligned_base first) (has_aligned words) (has_aligned_base word)))

module _ (ask_last : Bool) (ops : List ℕ) (i k : ℕ) (more : i < length ops) where
  -- the reference base lies in operation i
  pub position_here : k < reference_bases (get_or ops i 0)
      → read_position_at ask_last (take i ops) (drop i ops) k ≡ inside ask_last (read_length (take i ops)) (has_aligned (take i ops)) (get_or ops i 0) k
  unfolding read_position_at
  position_here h = rw (drop-cons ops i 0, lt-ltb k (reference_bases (get_or ops i 0)) h)

  -- it lies further on
  pub position_on : reference_bases (get_or ops i 0) ≤ k
      → read_position_at ask_last (take i ops) (drop i ops) k ≡ read_position_at ask_last (take (i + 1) ops) (drop (i + 1) ops) (k - reference_bases (get_or ops i 0))
  unfolding read_position_at
  position_on h = rw (add-one, take-suc ops i 0, drop-cons ops i 0, le-ltb k (reference_bases (get_or ops i 0)) h)

-- an M, = or X consumes its length of both
aligned_bases : (word : ℕ) → is_aligned word ≡ true → (read_bases word ≡ op_length word) × (reference_bases word ≡ op_length word)
unfolding read_bases reference_bases
aligned_bases word e = let consumed = and_parts (consumes_read (op_code word)) (consumes_reference (op_code word)) e in rw (consumed.0, consumed.1) (refl, refl)

-- where there is a base, it lies from 1 to n
abbrev Within : ℕ → Option ℕ → Type 0
Within n (Some p) = (1 ≤ p) × (p ≤ n)
Within n None = Unit

-- where M, = or X is among the operations, they have a read base
aligned_read : (words : List ℕ) → has_aligned words ≡ true → 1 ≤ read_length words
unfolding has_aligned total
aligned_read [] e = absurd (false≢true e)
aligned_read (word ∷ words) e = first (has_aligned_base word) refl e (aligned_read words)
  where
    first : (own : Bool) → has_aligned_base word ≡ own → own || has_aligned words ≡ true → (has_aligned words ≡ true → 1 ≤ read_length words) → 1 ≤ read_bases word + read_length words
    first true some e later =
        let parts = and_parts (is_aligned word) (ltb 0 (op_length word)) some in
        omega (arith, ltb-true 0 (op_length word) parts.1, (aligned_bases word parts.0).0)
    first false some e later = omega (arith, later e)

position_at-within : (ask_last : Bool) (before words : List ℕ) (k : ℕ) → Within (read_length (before ++ words)) (read_position_at ask_last before words k)
unfolding read_position_at total
position_at-within ask_last before [] k = tt
position_at-within ask_last before (word ∷ words) k =
    cond_both (ltb k (reference_bases word)) _ _ (Within _)
    (λ here.
    rw total-append
    (cond_both (is_aligned word) _ _ (Within _)
    (λ aligned. omega (arith, ltb-true k (reference_bases word) here, aligned_bases word aligned))
    (λ _.
    cond_both (ask_last && has_aligned before) _ _ (Within _)
    (λ asked. omega (arith, aligned_read before (and_parts ask_last (has_aligned before) asked).1))
    (λ _. tt))))
    (λ _. rw append_assoc at (position_at-within ask_last (before ++ (word ∷ [])) words (k - reference_bases word)))

position_at_beyond : (ask_last : Bool) (before words : List ℕ) (k : ℕ) → reference_length words ≤ k → read_position_at ask_last before words k ≡ None
unfolding read_position_at total
position_at_beyond ask_last before [] k h = refl
position_at_beyond ask_last before (word ∷ words) k h =
    cond_both (ltb k (reference_bases word)) _ _ (λ r. r ≡ None)
    (λ here. absurd (omega (arith, ltb-true k (reference_bases word) here)))
    (λ _. position_at_beyond ask_last (before ++ (word ∷ [])) words (k - reference_bases word) (omega arith))

-- where each answer that is a base is the other's too, so is the one that the test picks
kept : (test : Bool) {x y x' y' : Option ℕ} {p : ℕ} → (x ≡ Some p → x' ≡ Some p) → (y ≡ Some p → y' ≡ Some p) → cond test x y ≡ Some p → cond test x' y' ≡ Some p
kept true first second e = first e
kept false first second e = second e

no_base : {p : ℕ} {x : Option ℕ} → None ≡ Some p → x ≡ Some p
no_base e = let apart : ◌≡◌ {A = ℕ} 0 1 = cc in absurd (omega arith)

position_at-asked : (before words : List ℕ) (k : ℕ) {p : ℕ} → read_position_at false before words k ≡ Some p → read_position_at true before words k ≡ Some p
unfolding read_position_at
position_at-asked before [] k e = e
position_at-asked before (word ∷ words) k e =
    kept (ltb k (reference_bases word)) (kept (is_aligned word) (λ base. base) no_base) (position_at-asked (before ++ (word ∷ [])) words (k - reference_bases word)) e

-- asking for the last base changes nothing where there is a base
pub position-asked : (ops : List ℕ) (start position : ℕ) {p : ℕ} → read_position false ops start position ≡ Some p → read_position true ops start position ≡ Some p
unfolding read_position
position-asked ops start position e = kept (ltb position start) no_base (position_at-asked [] ops (position - start)) e

module _ (ask_last : Bool) (ops : List ℕ) (start position : ℕ) where
  -- a read position lies from 1 to the read length
  pub position-within : (p : ℕ) → read_position ask_last ops start position ≡ Some p → (1 ≤ p) × (p ≤ read_length ops)
  unfolding read_position
  position-within p e =
      let within : Within (read_length ops) (read_position ask_last ops start position) =
      cond_both (ltb position start) _ _ (Within _) (λ _. tt) (λ _. position_at-within ask_last [] ops (position - start)) in
      rw e at within

  pub position_if_within : IfSome (read_position ask_last ops start position) (λ p. (1 ≤ p) × (p ≤ read_length ops))
  position_if_within = by (read_position ask_last ops start position) position-within
    where
      by : (r : Option ℕ) → ((p : ℕ) → r ≡ Some p → (1 ≤ p) × (p ≤ read_length ops)) → IfSome r (λ p. (1 ≤ p) × (p ≤ read_length ops))
      by (Some p) h = h p refl
      by None h = tt

  -- there is none before the reference span, and none past it
  pub position-before : position < start → read_position ask_last ops start position ≡ None
  unfolding read_position
  position-before h = rw (lt-ltb position start h)

  pub position_past : start + reference_length ops ≤ position → read_position ask_last ops start position ≡ None
  unfolding read_position
  position_past h = rw (le-ltb position start (omega arith)) (position_at_beyond ask_last [] ops (position - start) (omega arith))
