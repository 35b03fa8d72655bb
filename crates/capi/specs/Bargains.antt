-- Whether two inputs offer the same bargains, told by numbers
use Rattle.std.specs.Prelude.{◌≡◌, ℕ, Bool, cond, List, Some, None, Ok, Err, Option, Result, ◌==◌}
use Rattle.costs.specs.Cents.{cents_kind}
use Rattle.numbers.specs.Input.{value_of}
use Rattle.model.specs.Bargain.{Verdict}
use Rattle.keyinput.specs.Batch.{Offer, batch_in}
use Rattle.keyanswer.specs.Compare.{RefusedAt, offered}

-- 0, or the number of the refusal
abbrev pub verdict_status : Result Bool RefusedAt → ℕ
verdict_status (Ok equal) = 0
verdict_status (Err at) = at.refused.number

-- 1 for equal, 0 for different; a refused call leaves what was there
abbrev pub equal_after : Result Bool RefusedAt → ℕ → ℕ
equal_after (Ok equal) was = cond equal 1 0
equal_after (Err at) was = was

-- the value that a refusal carries, or the greatest number of 64 bits
abbrev pub told_value : Option ℕ → ℕ
told_value (Some value) = value
told_value None = 18446744073709551615

-- the input that is refused, and the value; a call that is not refused leaves what was there
abbrev pub about_after : Result Bool RefusedAt → ℕ → ℕ
about_after (Ok equal) was = was
about_after (Err at) was = at.about

abbrev pub carried_after : Result Bool RefusedAt → ℕ → ℕ
carried_after (Ok equal) was = was
carried_after (Err at) was = told_value at.refused.carried

-- where the status is 0, the verdict, 1 for equal, is right for the cards and sheets that the two inputs spell: the whole
-- statement holds of it
abbrev pub RightlyJudged : List ℕ → List ℕ → ℕ → ℕ → Type 0
RightlyJudged first_input second_input status equal =
    status ≡ 0
    → (first second : Offer) → value_of (batch_in first_input) ≡ Ok first → value_of (batch_in second_input) ≡ Ok second
    → Verdict cents_kind (offered first) first.book (offered second) second.book (equal == 1)
