-- A call that gives its words.
use mathlib.Core.List.{List}
use mathlib.Core.Path.{◌≡◌, refl, sym, ◌∙◌, ap}
use Prim.Native.Nat.{ℕ}
use native.Mathlib.Omega.{arith}
use lib.ListN.{length}
use Rattle.std.specs.Prelude.{Result, Ok, Err}
use Rattle.lists.specs.Written.{written}
use Rattle.extended_cigar.specs.declared.convert.CigarAnswer.{CigarAnswer}
use Rattle.extended_cigar.specs.declared.refusal.CigarRefusal.{CigarRefusal}
use Rattle.extended_cigar.specs.Converted.{Converted}

-- a call that answers kind 0 is not refused
pub unrefused : (refusal : Result Unit CigarRefusal) {words old new : List ℕ} {told : CigarAnswer} → Converted refusal words old new told → told.kind ≡ 0 → refusal ≡ Ok tt
unrefused (Ok accepted) made e = refl
unrefused (Err refusal) made e = let z : ◌≡◌ {A = ℕ} 0 1 = sym e ∙ ap (λ (told : CigarAnswer). told.kind) made.answer in absurd (omega arith)

-- and what it then answers and leaves
pub words-given : (refusal : Result Unit CigarRefusal) {words old new : List ℕ} {told : CigarAnswer} → refusal ≡ Ok tt → Converted refusal words old new told
    → (told ≡ record { kind = 0; number = 0; with = 0; count = length words }) × (new ≡ written words old)
words-given r e made = (rw e at made.answer, rw e at made.output)
