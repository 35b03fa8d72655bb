-- What a call tells its caller: an answer, or a refusal by its number and the value that it carries
use Rattle.std.specs.Prelude.{ℕ, Bool, cond, Some, None, Ok, Err, Option, Result}

-- a refusal; it may carry the row, task, argument or place that it is about
pub record Refused : Type 0 where
  pub number : ℕ
  pub carried : Option ℕ

abbrev pub Answer : Type 0 → Type 0
Answer A = Result A Refused

-- the refusal of this number, alone or with a value
abbrev pub plain : ℕ → Refused
plain number = record { number = number; carried = None }

abbrev pub carrying : ℕ → ℕ → Refused
carrying number value = record { number = number; carried = Some value }

-- refused with the number where the condition holds, else what follows; written by rising number, such lines give
-- the smallest that applies
abbrev pub refused_if : {A : Type 0} → Bool → ℕ → Answer A → Answer A
refused_if applies number otherwise = cond applies (Err (plain number)) otherwise

-- what a call returned, with its refusal told by number and value
abbrev pub answer_of : {A E : Type 0} → (E → Refused) → Result A E → Answer A
answer_of told (Ok a) = Ok a
answer_of told (Err e) = Err (told e)
