-- What an answer says: whether the call is refused.
use mathlib.Core.Bool.{false}
use mathlib.Core.Path.{◌≡◌, refl}
use Rattle.std.specs.Prelude.{Result, Ok, Err, is_err}
use Rattle.caller.specs.declared.refusal.Refusal.{Refusal}
use Rattle.codec_family.specs.Answer.{reported, says_refused}
use Rattle.codec_family.specs.FamilyCalled.{unless_refused}
use Rattle.codec_family.specs.declared.ending.Ending.{Ending}
use Rattle.codec_family.specs.declared.ending.Ending.TheVariants as endings
use Rattle.codec_family.proofs.Settled.{Stands}

-- an ending of the steps is not answered as a refusal
pub stands_answered : (e : Ending) → Stands e → says_refused (reported e) ≡ false
stands_answered (endings.Called length) stands = refl
stands_answered endings.Empty stands = refl
stands_answered endings.NoStrand stands = refl
stands_answered (endings.Rejected reason) stands = refl
stands_answered (endings.Disagreeing limit) stands = refl
stands_answered (endings.Refused refusal) stands = absurd stands

-- the answer says whether the call is refused
pub refused_as : (r : Result Unit Refusal) (e : Ending) → (r ≡ Ok tt → Stands e) → says_refused (reported (unless_refused r e)) ≡ is_err r
refused_as (Ok done) e stands = stands_answered e (stands refl)
refused_as (Err refusal) e stands = refl
