-- The numbers from a place on, exactly twenty of them.
use Rattle.std.proofs.Common.{◌≡◌, ◌≤◌, ℕ, List, Bool, true, false, cond, length, take, map, eqb, refl, arith, Some, None}
use Rattle.std.proofs.lemmas.Bool.{eqb-true}
use Rattle.std.proofs.lemmas.List.{map-id, take_all, length-take-le}
use Rattle.std.specs.Bool.{then_some}
use Rattle.std.specs.Option.{option_map}
use Rattle.codec_stats.specs.Counts.{ledger_by, ledger_of}
use Rattle.line_text.specs.Numbers.{exactly}
use Rattle.ledger_lines.specs.Settings.{figures_of}
use Rattle.ledger_lines.proofs.settings.figures_at.Goals as goal

-- n numbers stand in front of a column of twenty
whole : (counts : List ℕ) (n : ℕ) → length counts ≡ 20 → n ≤ length counts → then_some (eqb n 20) (ledger_of counts) ≡ option_map ledger_of (exactly 20 (Some (map (λ k. k) (take n counts))))
whole counts n twenty few = rw (map-id (take n counts), length-take-le n counts few) (go (eqb n 20) refl)
  where
    go : (t : Bool) → eqb n 20 ≡ t → then_some t (ledger_of counts) ≡ option_map ledger_of (cond t (Some (take n counts)) None)
    go true e = let all : length counts ≤ n = omega (arith, eqb-true n 20 e) in rw (take_all n counts all)
    go false e = refl

pub returns-in_err-n : goal.returns-in_err-n
unfolding figures_of
returns-in_err-n c = rw (c.from_residual.ensures, ← c.in_err-n.ensures.numbers)

pub returns : goal.returns
unfolding figures_of ledger_by
returns c = rw (c.then_some.ensures, c.from.ensures, ← c.in_ok-n.ensures.numbers) (whole _ _ c.in_ok-n.ensures.size c.in_ok-n.ensures.bound)
