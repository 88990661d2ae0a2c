-- Document 02, Req 08: 'Each call answers the number of words written; the rest of the output is untouched'.
use Rattle.std.specs.Prelude.{List, ◌≡◌, ℕ, length, Result, Ok, Err}
use Rattle.lists.specs.Written.{written}
use Rattle.extended_cigar.specs.Refusals.{number_of}
use Rattle.extended_cigar.specs.declared.convert.CigarAnswer.{CigarAnswer}
use Rattle.extended_cigar.specs.declared.refusal.CigarRefusal.{CigarRefusal}

-- the number of words written, where nothing is refused
abbrev pub counted : Result Unit CigarRefusal → List ℕ → Result ℕ CigarRefusal
counted (Ok accepted) words = Ok (length words)
counted (Err refusal) words = Err refusal

-- kind 0: the number of words written; 1: a refusal's number, with 0
abbrev pub told_of : Result ℕ CigarRefusal → CigarAnswer
told_of (Ok count) = record { kind = 0; number = 0; with = 0; count = count }
told_of (Err refusal) = record { kind = 1; number = number_of refusal; with = 0; count = 0 }

abbrev pub reported : Result Unit CigarRefusal → List ℕ → CigarAnswer
reported refusal words = told_of (counted refusal words)

-- the output that a call leaves: as it was where it refuses
abbrev pub output_of : Result Unit CigarRefusal → List ℕ → List ℕ → List ℕ
output_of (Ok accepted) words old = written words old
output_of (Err refusal) words old = old

-- a call that is refused or gives these words, the output before and after it, and its answer
pub record Converted (refusal : Result Unit CigarRefusal) (words old new : List ℕ) (told : CigarAnswer) : Type 0 where
  pub answer : told ≡ reported refusal words
  pub output : new ≡ output_of refusal words old
