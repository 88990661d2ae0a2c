-- Document 01, 'Demand 3': 'any list of family calls, refused ones included, the first handed a fresh ledger and each later one the
-- ledger that the one before returned or left'.
use Rattle.std.specs.Prelude.{not, List, [], ◌∷◌, map, ◌≡◌}
use Rattle.std.specs.List.{filter}
use Rattle.codec_stats.specs.Ledger.{fresh}
use Rattle.codec_stats.specs.declared.ledger.Ledger.{Ledger}
use Rattle.codec_family.specs.Answer.{says_refused, says_called, says_disagreeing}
use Rattle.codec_family.specs.Call.{Call, Lent, room_of}
use Rattle.codec_family.specs.FamilyCalled.{FamilyCalled}
use Rattle.codec_family.specs.declared.answer.FamilyAnswer.{FamilyAnswer}

-- one call of the list: what it was given and lent, what it answered, its ledger among it, and what it left
pub record Made : Type 0 where
  pub call : Call
  pub before : Lent
  pub answer : FamilyAnswer
  pub after : Lent

-- it was handed a ledger, and did what the exported contract says
pub record Handed (ledger : Ledger) (m : Made) : Type 0 where
  pub lent : m.call.room ≡ room_of m.before
  pub contract : FamilyCalled m.call ledger m.before m.answer m.after

-- a list of calls, the first handed this ledger, each later one that of the one before
abbrev pub ChainFrom : Ledger → List Made → Type 0
ChainFrom ledger [] = Unit {0}
ChainFrom ledger (m ∷ later) = Handed ledger m × ChainFrom m.answer.ledger later

abbrev pub Chain : List Made → Type 0
Chain made = ChainFrom fresh made

-- the ledger after the list
abbrev pub last_from : Ledger → List Made → Ledger
last_from ledger [] = ledger
last_from ledger (m ∷ later) = last_from m.answer.ledger later

abbrev pub last_ledger : List Made → Ledger
last_ledger made = last_from fresh made

-- the calls alone
abbrev pub calls_of : List Made → List Call
calls_of made = map Made.call made

-- 'the calls not refused', as they were answered
abbrev pub unrefused : List Made → List Made
unrefused made = filter (λ m. not (says_refused m.answer.ending)) made

-- 'those answered called'
abbrev pub duplexes : List Made → List Made
duplexes made = filter (λ m. says_called m.answer.ending) made

-- 'the calls ended by HighDuplexDisagreement'
abbrev pub disagreeing : List Made → List Made
disagreeing made = filter (λ m. says_disagreeing m.answer.ending) made

-- of each element of a list
abbrev pub Each : {A : Type 0} → (A → Type 0) → List A → Type 0
Each P [] = Unit {0}
Each P (x ∷ xs) = P x × Each P xs
