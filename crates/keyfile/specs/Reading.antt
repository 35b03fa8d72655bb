-- Readings of several numbers, and the calls between them
use Rattle.std.specs.Prelude.{◌≡◌, ℕ, zero, suc, length, Ok, Err, Result, nat_lt}
use Rattle.refusals.specs.Answer.{Answer, Refused, carrying}
use Rattle.numbers.specs.Input.{Input, Reading, then, refused_at}

-- a call between readings: what it made, or its refusal handed up with a place
abbrev pub called : {A B : Type 0} → Answer A → B → ℕ → Input → Reading B
called (Ok answer) made place left = Ok (made, left)
called (Err refused) made place left = Err (carrying refused.number place)

-- a reading that is done so often, each from what the one before made and left
abbrev pub repeated : {A : Type 0} → ℕ → (A → Input → Reading A) → A → Input → Reading A
repeated zero once made left = Ok (made, left)
repeated (suc more) once made left = then (once made left) (repeated more once)

-- nothing may be left at the end of a file
abbrev pub ended : {A : Type 0} → A → Input → Reading A
ended made left = refused_at (nat_lt 0 (length left.bytes)) 13 left.place (Ok (made, left))

-- a call that reads gave what a reading gives, by what it returned, made and left
abbrev pub ReadAs : {A E : Type 0} → (E → Refused) → Reading A → Result (Unit {0}) E → A → Input → Type 0
ReadAs told reading (Ok done) made left = reading ≡ Ok (made, left)
ReadAs told reading (Err refusal) made left = reading ≡ Err (told refusal)

-- what a call returned, with what it made in its place
abbrev pub giving : {A E : Type 0} → A → Result (Unit {0}) E → Result A E
giving made (Ok done) = Ok made
giving made (Err refusal) = Err refusal

abbrev pub viewed : {A B E : Type 0} → (B → A) → Result B E → Result A E
viewed view (Ok made) = Ok (view made)
viewed view (Err refusal) = Err refusal
