-- Document 01, `duplex-table`: decimals without leading zeros.
use Rattle.std.specs.Prelude.{Bool, true, false, cond, not, ◌&&◌, List, [], ◌∷◌, ◌++◌, ℕ, zero, suc, ◌+◌, ◌-◌, ◌*◌, ◌/◌, ◌%◌, leb, ltb, eqb, Option, Some, None}
use Prim.Native.Char.{code}
use Rattle.std.specs.List.{list_all}

-- the digits 0 to 9 are bytes in a row
abbrev pub is_digit : ℕ → Bool
is_digit byte = leb (code "0") byte && leb byte (code "9")

-- the number that v and then the digits spell
unfoldable pub spelled : ℕ → List ℕ → ℕ
spelled v [] = v
spelled v (b ∷ bs) = spelled (v * 10 + (b - code "0")) bs

-- not empty, and no 0 in front of another byte
unfoldable pub plain : List ℕ → Bool
plain [] = false
plain (b ∷ []) = true
plain (b ∷ c ∷ bs) = not (eqb b (code "0"))

-- the number that v and then the bytes spell, where the bytes are digits and the number is at most the limit
unfoldable pub digits_number : ℕ → ℕ → List ℕ → Option ℕ
digits_number limit v bytes = cond (list_all is_digit bytes && leb (spelled v bytes) limit) (Some (spelled v bytes)) None

-- the same for one byte
abbrev pub with_digit : ℕ → ℕ → ℕ → Option ℕ
with_digit limit v byte = cond (is_digit byte && leb (v * 10 + (byte - code "0")) limit) (Some (v * 10 + (byte - code "0"))) None

-- the number of a field: a decimal without leading zeros, at most the limit
unfoldable pub number : ℕ → List ℕ → Option ℕ
number limit field = cond (plain field) (digits_number limit 0 field) None

-- the digits of n, at most k of them: those of n / 10 and then the last; below 10 the last alone
unfoldable pub last_digits : ℕ → ℕ → List ℕ
last_digits zero n = []
last_digits (suc k) n = cond (ltb n 10) ((code "0" + n) ∷ []) (last_digits k (n / 10) ++ ((code "0" + n % 10) ∷ []))

-- a number as text; 20 digits hold 64 bits
unfoldable pub decimal : ℕ → List ℕ
decimal n = last_digits 20 n
