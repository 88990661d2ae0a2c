-- A family's columns. Only inner contracts need it.
use Rattle.std.specs.Prelude.{Bool, List, ◌≡◌, ℕ, ◌≤◌, ℤ, length}

-- there is one place in each column for each of up to 512 records
pub record Alike (flags names : List ℕ) (verdicts : List Bool) (ranks : List ℤ) (clipped positions starts counts : List ℕ) : Type 0 where
  pub few : length flags ≤ 512
  pub as_many_names : length names ≡ length flags
  pub as_many_verdicts : length verdicts ≡ length flags
  pub as_many_ranks : length ranks ≡ length flags
  pub as_many_clipped : length clipped ≡ length flags
  pub as_many_positions : length positions ≡ length flags
  pub as_many_starts : length starts ≡ length flags
  pub as_many_counts : length counts ≡ length flags
