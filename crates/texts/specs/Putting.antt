-- Bytes put into memory at a place, or refused where they do not fit
use Rattle.std.specs.Prelude.{ℕ, ◌+◌, ◌<◌, List, length, Ok, Err, Result}
use Rattle.texts.specs.Put.{Put}
use Rattle.texts.specs.declared.too_short.TooShort.{TooShort}

-- the place behind the bytes is returned
abbrev pub Puts : List ℕ → ℕ → List ℕ → List ℕ → Result ℕ TooShort → Type 0
Puts was at piece after (Ok end) = Put was at piece after end
Puts was at piece after (Err short) = length was < at + length piece
