-- The operations from the end that a record is read from.
use mathlib.Core.Bool.{Bool, true, false, cond}
use mathlib.Core.List.{List, map, reverse as reversed}
use mathlib.Core.Path.{◌≡◌, refl, sym, ◌∙◌, ap}
use Prim.Native.Nat.{ℕ, ◌-◌, ◌<◌}
use lib.ListN.{length, get_or, length-reverse}
use Rattle.std.proofs.lemmas.List.{get_or-reverse}
use Rattle.lists.proofs.Reverse.{map-reverse}
use Rattle.raw_bam.specs.Simplified.{simple_entry, joined, simplified}
use Rattle.raw_bam.proofs.Joining.{joined-reverse}

pub in_order : Bool → List ℕ → List ℕ
in_order true ops = reversed ops
in_order false ops = ops

pub length-in_order : (is_reverse : Bool) (ops : List ℕ) → length (in_order is_reverse ops) ≡ length ops
unfolding in_order
length-in_order true ops = length-reverse ops
length-in_order false ops = refl

get_d_in_order : (is_reverse : Bool) (ops : List ℕ) (i : ℕ) → i < length ops → get_or (in_order is_reverse ops) i 0 ≡ get_or ops (cond is_reverse (length ops - 1 - i) i) 0
unfolding in_order
get_d_in_order true ops i h = get_or-reverse ops i 0 h
get_d_in_order false ops i h = refl

pub simplified-in_order : (is_reverse : Bool) (ops : List ℕ) → simplified is_reverse ops ≡ joined (map simple_entry (in_order is_reverse ops))
unfolding simplified in_order
simplified-in_order true ops = rw (map-reverse simple_entry ops) (sym (joined-reverse (map simple_entry ops)))
simplified-in_order false ops = refl

-- the entry that is made of the operation at a place in order
pub entry_read : (is_reverse : Bool) (ops : List ℕ) (i p e : ℕ) → i < length ops → p ≡ cond is_reverse (length ops - 1 - i) i → e ≡ simple_entry (get_or ops p 0)
    → simple_entry (get_or (in_order is_reverse ops) i 0) ≡ e
entry_read is_reverse ops i p e h q r = ap simple_entry (get_d_in_order is_reverse ops i h ∙ ap (λ (k : ℕ). get_or ops k 0) (sym q)) ∙ sym r
