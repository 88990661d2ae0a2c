-- Laws of the reasons' names.
use Rattle.std.proofs.Common.{◌≡◌, ℕ, false, ◌≤◌, [], refl, arith, length}
use native.Mathlib.Decide.{ℕ_discrete}
use lib.ListN.{get_or-eq_default}
use Rattle.caller.specs.Reasons.{name_of, number_of}
use Rattle.caller.specs.declared.reason.RejectionReason.TheVariants.{FragmentRead, NotPrimaryFrPair, InsufficientReads, MinorityAlignment, Downsampled, InsufficientOverlap, IndelErrorBetweenStrands, Dovetail, ClipOverlapFailed, HighDuplexDisagreement}
use Rattle.caller.specs.declared.reason.RejectionReason.{RejectionReason}
use Rattle.codec_family.specs.Ending.{is_called}
use Rattle.codec_family.specs.declared.ending.Ending.TheVariants.{Called, Empty, NoStrand, Rejected, Disagreeing, Refused}
use Rattle.codec_family.specs.declared.ending.Ending.{Ending}
use Rattle.handover_text.specs.Handover.{reason_names, reason_name}

-- the longest is IndelErrorBetweenStrands
pub longest_name : (reason : RejectionReason) → length (name_of reason) ≤ 24
longest_name FragmentRead = omega arith
longest_name NotPrimaryFrPair = omega arith
longest_name InsufficientReads = omega arith
longest_name MinorityAlignment = omega arith
longest_name Downsampled = omega arith
longest_name InsufficientOverlap = omega arith
longest_name IndelErrorBetweenStrands = omega arith
longest_name Dovetail = omega arith
longest_name ClipOverlapFailed = omega arith
longest_name HighDuplexDisagreement = omega arith

-- the reason with a number has its name
pub named : (reason : RejectionReason) → reason_name (number_of reason) ≡ name_of reason
unfolding reason_name
named FragmentRead = refl
named NotPrimaryFrPair = refl
named InsufficientReads = refl
named MinorityAlignment = refl
named Downsampled = refl
named InsufficientOverlap = refl
named IndelErrorBetweenStrands = refl
named Dovetail = refl
named ClipOverlapFailed = refl
named HighDuplexDisagreement = refl

-- a number that no reason has has no name
pub unnamed : (n : ℕ) → ((reason : RejectionReason) → number_of reason ≡ n → ⊥) → reason_name n ≡ []
unfolding reason_name
unnamed n none = go (ℕ_discrete n 0)
  where
    go : Dec (n ≡ 0) → reason_name n ≡ []
    go (yes e) = rw e
    go (no some) = get_or-eq_default reason_names [] (omega (arith, some, none FragmentRead, none NotPrimaryFrPair, none InsufficientReads, none MinorityAlignment, none Downsampled, none InsufficientOverlap, none IndelErrorBetweenStrands, none Dovetail, none ClipOverlapFailed, none HighDuplexDisagreement))

-- an ending that is not `Called` says so
pub uncalled : (e : Ending) → ((length : ℕ) → e ≡ Called length → ⊥) → is_called e ≡ false
uncalled (Called length) none = absurd (none length refl)
uncalled Empty none = refl
uncalled NoStrand none = refl
uncalled (Rejected reason) none = refl
uncalled (Disagreeing limit) none = refl
uncalled (Refused refusal) none = refl
