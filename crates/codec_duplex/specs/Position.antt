-- Document 01, 'Position combination': one position of the duplex from the same position of both strands.
use Rattle.std.specs.Prelude.{Bool, true, false, cond, not, ◌&&◌, ◌||◌, ℕ, ◌+◌, ◌-◌, min, max, eqb, ltb, pos}
use Rattle.caller.specs.Short.{short_depth, short_error}
use Rattle.codec_duplex.specs.declared.position.Position.{Position}

-- a strand has data where its base is neither N nor n
abbrev pub has_data : ℕ → Bool
has_data base = not (eqb base 78) && not (eqb base 110)

-- both, equal: quality is the sum, at most 93
abbrev pub agreed_quality : ℕ → ℕ → ℕ
agreed_quality a b = min (a + b) 93

-- both, different: quality is the larger of 2 and the difference
abbrev pub differing_quality : ℕ → ℕ → ℕ
differing_quality a b = max 2 (max a b - min a b)

-- the higher quality's base wins (tie: the first's); equal bases are either's
abbrev pub winner : Position → Position → Position
winner a b = cond (ltb a.quality b.quality) b a

abbrev pub loser : Position → Position → Position
loser a b = cond (ltb a.quality b.quality) a b

-- both: the quality before the N rules
abbrev pub both_quality : Position → Position → ℕ
both_quality a b =
    cond (eqb a.base b.base)
    (agreed_quality a.quality b.quality)
    (differing_quality a.quality b.quality)

-- both: depth is the sum of capped depths
abbrev pub both_depth : ℕ → ℕ → ℕ
both_depth a b = short_depth a + short_depth b

-- both, equal: error is the sum of errors
-- both, different: error is the winner's error plus the loser's depth minus error, not below 0
abbrev pub error_where : (differ : Bool) (winner loser : Position) → ℕ
error_where false a b = a.error + b.error
error_where true winner loser = winner.error + (loser.depth - loser.error)

-- both: error is clamped
abbrev pub both_called : Position → Position → Position
both_called a b =
    record {
      base = (winner a b).base;
      quality = both_quality a b;
      depth = both_depth a.depth b.depth;
      error = short_error (pos (error_where (not (eqb a.base b.base)) (winner a b) (loser a b)));
    }

-- both and one: a quality of exactly 2 makes the base N
abbrev pub low_masked : Position → Position
low_masked p = record { base = cond (eqb p.quality 2) 78 p.base; quality = p.quality; depth = p.depth; error = p.error }

-- none: N, 2, depth 0, clamped error sum
abbrev pub none_called : Position → Position → Position
none_called a b = record { base = 78; quality = 2; depth = 0; error = short_error (pos (a.error + b.error)) }

-- by which strands have data: both; one, with its base, quality, depth and error, uncapped; or none
abbrev pub by_data : Bool → Bool → Position → Position → Position
by_data true true a b = low_masked (both_called a b)
by_data true false a b = low_masked a
by_data false true a b = low_masked b
by_data false false a b = none_called a b

-- N and 2 where forced; depth and error stay
abbrev pub forced : Bool → Position → Position
forced no_call p =
    record { base = cond no_call 78 p.base; quality = cond no_call 2 p.quality; depth = p.depth; error = p.error }

-- last, uppercase N on either strand forces N and 2
unfoldable pub combined : Position → Position → Position
combined a b =
    forced (eqb a.base 78 || eqb b.base 78)
    (by_data (has_data a.base) (has_data b.base) a b)
