-- The bytes of a file number, and what reading one finds
use Rattle.std.specs.Prelude.{ℕ, zero, suc, ◌+◌, ◌*◌, ◌/◌, ◌%◌, ◌^◌, Bool, true, false, cond, ◌&&◌, ◌||◌, List, [], ◌∷◌, Ok, ◌==◌, nat_le, nat_lt}
use Rattle.numbers.specs.Input.{Input, past, Reading, refused_at}

-- the groups of seven bits, lowest first, in at most so many bytes more than one; all but the last have bit 0x80 set
abbrev pub groups : ℕ → ℕ → List ℕ
groups zero n = n ∷ []
groups (suc more) n = cond (nat_lt n 128) (n ∷ []) ((128 + n % 128) ∷ groups more (n / 128))

-- the least number that has no such groups: the fifth byte holds four bits
abbrev pub limit : ℕ → ℕ
limit more = 2 ^ (7 * more + 4)

-- the bytes of a number
unfoldable pub spelled : ℕ → List ℕ
spelled n = groups 4 n

-- bit 0x80 is set
abbrev pub continues : ℕ → Bool
continues byte = nat_le 128 byte

-- the bytes end where a byte of the number is due
abbrev pub ends_early : ℕ → List ℕ → Bool
ends_early more [] = true
ends_early zero (byte ∷ bytes) = false
ends_early (suc more) (byte ∷ bytes) = continues byte && ends_early more bytes

abbrev pub zero_first : List ℕ → Bool
zero_first [] = false
zero_first (byte ∷ bytes) = byte == 0

-- a fifth byte above 0x0F, or a longer form ending in 0
abbrev pub misspelt : ℕ → List ℕ → Bool
misspelt more [] = false
misspelt zero (byte ∷ bytes) = nat_lt 15 byte
misspelt (suc more) (byte ∷ bytes) = continues byte && (zero_first bytes || misspelt more bytes)

-- how many bytes the number has
abbrev pub size : ℕ → List ℕ → ℕ
size more [] = 0
size zero (byte ∷ bytes) = 1
size (suc more) (byte ∷ bytes) = cond (continues byte) (suc (size more bytes)) 1

-- the number of the groups
abbrev pub value : ℕ → List ℕ → ℕ
value more [] = 0
value zero (byte ∷ bytes) = byte
value (suc more) (byte ∷ bytes) = cond (continues byte) (value more bytes * 128 + byte % 128) byte

-- the number at the start of an input; a refusal carries the place of its first byte
unfoldable pub number_in : Input → Reading ℕ
number_in input =
    refused_at (ends_early 4 input.bytes) 11 input.place
    (refused_at (misspelt 4 input.bytes) 12 input.place
    (Ok (value 4 input.bytes, past (size 4 input.bytes) input)))
