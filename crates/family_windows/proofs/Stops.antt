-- Laws of where the next window begins.
use Rattle.std.proofs.Common.{◌≡◌, ℕ, ◌<◌, Bool, true, false, cond, refl, sym, ap, Ok, Err, Result, ltb}
use borrow.Author.Tests.{ltb-true}
use Rattle.line_text.specs.Reading.{stop_place}
use Rattle.line_text.specs.declared.lines.Stop.{Stop}
use Rattle.line_text.specs.declared.lines.Stop.TheVariants as stops
use Rattle.ledger_lines.specs.declared.settings.Handed.{Handed}
use Rattle.family_windows.specs.Stops.{malformed, next_window}
use Rattle.family_windows.specs.declared.windows.Malformed.{Malformed}

taken : (test : Bool) (place : ℕ) (handed after : Handed) (family next : ℕ) → ◌≡◌ {A = Result (Handed × ℕ) Malformed} (cond test (Ok (handed, family)) (malformed place)) (Ok (after, next)) → (test ≡ true) × (◌≡◌ {A = Handed × ℕ} (handed, family) (after, next))
taken true place handed after family next e = (refl, cc)
taken false place handed after family next e = absurd cc

-- the next window begins behind the lines in front of a family, and never where this one does
pub begins : (begun : Result (Handed × ℕ) Stop) (stop : Stop) (ends : Bool) (handed : Handed) (family : ℕ) → Ok (handed, family) ≡ next_window begun stop ends → (begun ≡ Ok (handed, family)) × (0 < family)
unfolding next_window
begins begun (stops.Malformed place) ends handed family e = absurd cc
begins begun (stops.Cut place) true handed family e = absurd cc
begins (Err unread) (stops.Cut place) false handed family e = absurd cc
begins (Ok (first, next)) (stops.Cut place) false handed family e =
    let t = taken (ltb 0 next) place first handed next family (sym e) in
    (ap Ok t.1, rw (ap (λ (p : Handed × ℕ). p.1) t.1) at (ltb-true 0 next t.0))

-- the line that is malformed is the one where reading stopped
pub stopped : (begun : Result (Handed × ℕ) Stop) (stop : Stop) (ends : Bool) (at : Malformed) → Err at ≡ next_window begun stop ends → at.place ≡ stop_place stop
unfolding next_window
stopped begun (stops.Malformed place) ends at e = cc
stopped begun (stops.Cut place) true at e = cc
stopped (Err unread) (stops.Cut place) false at e = cc
stopped (Ok (first, next)) (stops.Cut place) false at e = go (ltb 0 next) e
  where
    go : (test : Bool) → ◌≡◌ {A = Result (Handed × ℕ) Malformed} (Err at) (cond test (Ok (first, next)) (malformed place)) → at.place ≡ place
    go true f = absurd cc
    go false f = cc
