-- What the test of the columns' lengths shows.
use mathlib.Core.Bool.{Bool, true, ◌&&◌}
use mathlib.Core.Path.{◌≡◌, sym}
use Prim.Native.Nat.{ℕ, ◌≤◌, ◌<◌}
use borrow.Author.Tests.{eqb-true, leb-true}
use lib.Dec.{eqb, leb, lit<}
use lib.ListN.{length, get_or}
use Rattle.std.proofs.lemmas.Bool.{and_parts}
use Rattle.lists.proofs.Every.{list_all_at}
use Rattle.codec_duplex.specs.Columns.{lengths, HasLength, HasRoom, Fitting}
use Rattle.codec_duplex.specs.Kept.{Kept, read, read_duplex, each_length, columns_fit}
use Rattle.codec_duplex.specs.Units.{Coding}

module _ {U : Type 0} (l : Coding U) where
  -- each of the four lengths meets the test
  each : (test : ℕ → Bool) (k : Kept U) → each_length l test k ≡ true → (i : ℕ) → i < 4 → test (get_or (lengths (read l k)) i 0) ≡ true
  each test k h i within = list_all_at test (lengths (read l k)) 0 (and_parts (l.is_whole (length k.errors)) _ (and_parts (l.is_whole (length k.depths)) _ h).1).1 i within

  has_length : (n : ℕ) (k : Kept U) → each_length l (eqb n) k ≡ true → HasLength n (read l k)
  has_length n k h =
      let is_n : (i : ℕ) → i < 4 → get_or (lengths (read l k)) i 0 ≡ n = λ i within. sym (eqb-true n _ (each (eqb n) k h i within)) in
      record { bases = is_n 0 (lit< tt); quals = is_n 1 (lit< tt); depths = is_n 2 (lit< tt); errors = is_n 3 (lit< tt) }

  has_room : (n : ℕ) (k : Kept U) → each_length l (leb n) k ≡ true → HasRoom n (read_duplex l k)
  has_room n k h =
      let room : (i : ℕ) → i < 4 → n ≤ get_or (lengths (read l k)) i 0 = λ i within. leb-true n _ (each (leb n) k h i within) in
      record { bases = room 0 (lit< tt); quals = room 1 (lit< tt); depths = room 2 (lit< tt); errors = room 3 (lit< tt) }

  module _ (a b out : Kept U) (fit : columns_fit l a b out ≡ true) where
    strands : (each_length l (eqb (length a.bases)) a ≡ true) × (each_length l (eqb (length a.bases)) b ≡ true)
    unfolding columns_fit
    strands = and_parts _ _ (and_parts (each_length l (eqb (length a.bases)) a && each_length l (eqb (length a.bases)) b) _ fit).0

    bounds : (leb (length a.bases) 2048 ≡ true) × (each_length l (leb (length a.bases)) out ≡ true)
    unfolding columns_fit
    bounds = and_parts _ _ (and_parts (each_length l (eqb (length a.bases)) a && each_length l (eqb (length a.bases)) b) _ fit).1

    pub fitting : Fitting (read l a) (read l b) (read_duplex l out)
    fitting = record { first = has_length (length a.bases) a strands.0; second = has_length (length a.bases) b strands.1; room = has_room (length a.bases) out bounds.1 }

    pub at_most_2048 : (length b.bases ≡ length a.bases) × (length a.bases ≤ 2048)
    at_most_2048 = (fitting.second.bases, leb-true (length a.bases) 2048 bounds.0)
