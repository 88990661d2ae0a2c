-- What a search for another record of a name finds. Only inner contracts need it.
use Rattle.std.specs.Prelude.{Bool, true, false, List, [], ◌∷◌, ℕ, ◌-◌, eqb}
use Rattle.std.specs.List.{list_any}
use Rattle.lists.specs.Numbers.{numbers_from}
use Rattle.codec_pairing.specs.Pairing.{is_namesake, namesakes_from}

-- some record has the name
abbrev pub has_name : List ℕ → ℕ → Bool
has_name names name = list_any (λ other. eqb other name) names

unfoldable pub is_some : List ℕ → Bool
is_some [] = false
is_some (one ∷ more) = true

-- some record from one on has the name and remains
abbrev pub has_namesake : List ℕ → List ℕ → ℕ → ℕ → Bool
has_namesake flags names name from = is_some (namesakes_from flags names name from)

-- some record from one on and before another has the name and remains
unfoldable pub has_namesake_between : List ℕ → List ℕ → ℕ → ℕ → ℕ → Bool
has_namesake_between flags names name from to = is_some (numbers_from (is_namesake flags names name) from (to - from))
