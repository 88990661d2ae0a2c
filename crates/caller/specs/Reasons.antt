-- Document 01, 'The answers': the ten reasons and their numbers.
use Rattle.std.specs.Prelude.{◌≡◌, ℕ, List, codes, Result, MatchResult}
use Rattle.caller.specs.declared.reason.NoReason.{NoReason}
use Rattle.caller.specs.declared.reason.RejectionReason.{RejectionReason}
use Rattle.caller.specs.declared.reason.RejectionReason.TheVariants.{FragmentRead, NotPrimaryFrPair, InsufficientReads, MinorityAlignment, Downsampled, InsufficientOverlap, IndelErrorBetweenStrands, Dovetail, ClipOverlapFailed, HighDuplexDisagreement}

-- the number of a reason
abbrev pub number_of : RejectionReason → ℕ
number_of FragmentRead = 1
number_of NotPrimaryFrPair = 2
number_of InsufficientReads = 3
number_of MinorityAlignment = 4
number_of Downsampled = 5
number_of InsufficientOverlap = 6
number_of IndelErrorBetweenStrands = 7
number_of Dovetail = 8
number_of ClipOverlapFailed = 9
number_of HighDuplexDisagreement = 10

-- the name of a reason
abbrev pub name_of : RejectionReason → List ℕ
name_of FragmentRead = codes "FragmentRead"
name_of NotPrimaryFrPair = codes "NotPrimaryFrPair"
name_of InsufficientReads = codes "InsufficientReads"
name_of MinorityAlignment = codes "MinorityAlignment"
name_of Downsampled = codes "Downsampled"
name_of InsufficientOverlap = codes "InsufficientOverlap"
name_of IndelErrorBetweenStrands = codes "IndelErrorBetweenStrands"
name_of Dovetail = codes "Dovetail"
name_of ClipOverlapFailed = codes "ClipOverlapFailed"
name_of HighDuplexDisagreement = codes "HighDuplexDisagreement"

-- a number is read back as the reason that has it, or as none where no reason does
abbrev pub ReadBack : ℕ → Result RejectionReason NoReason → Type 0
ReadBack n r = MatchResult r (λ reason. number_of reason ≡ n) (λ _. (reason : RejectionReason) → number_of reason ≡ n → ⊥)
