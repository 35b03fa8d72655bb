-- What a call for C returns, and what it writes to a number of the caller
use Rattle.std.specs.Prelude.{ℕ, Ok, Err}
use Rattle.refusals.specs.Answer.{Answer}

-- 0, or the number of the refusal
abbrev pub status_of : {A : Type 0} → Answer A → ℕ
status_of (Ok a) = 0
status_of (Err refused) = refused.number

-- the number answered; a refused call leaves what was there
abbrev pub number_after : Answer ℕ → ℕ → ℕ
number_after (Ok number) was = number
number_after (Err refused) was = was
