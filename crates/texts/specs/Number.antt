-- Decimal numbers as they are read
use Rattle.std.specs.Prelude.{ℕ, ◌+◌, ◌-◌, ◌*◌, min, Bool, true, cond, ◌&&◌, List, [], ◌∷◌, length, Some, None, Option, nat_le, nat_lt}

abbrev pub is_digit : ℕ → Bool
is_digit byte = nat_le 48 byte && nat_le byte 57

abbrev pub all_digits : List ℕ → Bool
all_digits [] = true
all_digits (byte ∷ bytes) = is_digit byte && all_digits bytes

-- the value of digits that stand behind digits of this value
abbrev pub value_behind : ℕ → List ℕ → ℕ
value_behind value [] = value
value_behind value (byte ∷ bytes) = value_behind (value * 10 + (byte - 48)) bytes

-- the number that the text spells in decimal digits, held at the greatest; without a digit, or with another byte, none
abbrev pub decimal_in : List ℕ → Option ℕ
decimal_in text = cond (nat_lt 0 (length text) && all_digits text) (Some (min (value_behind 0 text) 4294967295)) None
