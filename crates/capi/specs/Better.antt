-- Which of two inputs has the better bargain, told by numbers
use Rattle.std.specs.Prelude.{◌≡◌, ℕ, List, Some, None, Ok, Err, Option, Result}
use Rattle.costs.specs.Cents.{cents_kind}
use Rattle.costs.specs.declared.cents.Cents.{Cents}
use Rattle.numbers.specs.Input.{value_of}
use Rattle.model.specs.declared.better.Better.{Better}
use Rattle.model.specs.declared.better.Better.TheVariants.{First, Second}
use Rattle.model.specs.declared.point.Point.{Point}
use Rattle.model.specs.Better.{IsBetter}
use Rattle.planner.specs.Better.{NeitherBetter}
use Rattle.keyinput.specs.Batch.{Offer, batch_in}
use Rattle.keyanswer.specs.Compare.{RefusedAt, offered}
use Rattle.capi.specs.Bargains.{told_value}

-- 0, or the number of the refusal
abbrev pub better_status : Result (Option (Better Cents)) RefusedAt → ℕ
better_status (Ok verdict) = 0
better_status (Err at) = at.refused.number

-- the input that has the better bargain, 0 for neither; a refused call leaves what was there
abbrev pub which_better : Option (Better Cents) → ℕ
which_better None = 0
which_better (Some (First p)) = 1
which_better (Some (Second p)) = 2

abbrev pub better_after : Result (Option (Better Cents)) RefusedAt → ℕ → ℕ
better_after (Ok verdict) was = which_better verdict
better_after (Err at) was = was

-- its length and its cost; where there is none both stay as they were
abbrev pub length_told : Option (Better Cents) → ℕ → ℕ
length_told None was = was
length_told (Some (First p)) was = p.length
length_told (Some (Second p)) was = p.length

abbrev pub cost_told : Option (Better Cents) → ℕ → ℕ
cost_told None was = was
cost_told (Some (First p)) was = p.cost.value
cost_told (Some (Second p)) was = p.cost.value

abbrev pub length_after : Result (Option (Better Cents)) RefusedAt → ℕ → ℕ
length_after (Ok verdict) was = length_told verdict was
length_after (Err at) was = was

abbrev pub cost_after : Result (Option (Better Cents)) RefusedAt → ℕ → ℕ
cost_after (Ok verdict) was = cost_told verdict was
cost_after (Err at) was = was

-- the input that is refused, and the value; a call that is not refused leaves what was there
abbrev pub refused_input_after : Result (Option (Better Cents)) RefusedAt → ℕ → ℕ
refused_input_after (Ok verdict) was = was
refused_input_after (Err at) was = at.about

abbrev pub refused_value_after : Result (Option (Better Cents)) RefusedAt → ℕ → ℕ
refused_value_after (Ok verdict) was = was
refused_value_after (Err at) was = told_value at.refused.carried

-- what the three numbers tell of two offers: that both offer the same bargains, or the one that has the better bargain and
-- the pair of this length and cost
pub record NumbersTell (first second : Offer) (better length cost : ℕ) : Type 0 where
  pub neither : better ≡ 0 → NeitherBetter cents_kind (offered first) first.book (offered second) second.book
  pub by_first : better ≡ 1 → (p : Point Cents) → p.length ≡ length → p.cost.value ≡ cost
      → IsBetter cents_kind (offered first) first.book (offered second) second.book p
  pub by_second : better ≡ 2 → (p : Point Cents) → p.length ≡ length → p.cost.value ≡ cost
      → IsBetter cents_kind (offered second) second.book (offered first) first.book p

-- where the status is 0, the numbers tell it of the cards and sheets that the two inputs spell
abbrev pub RightlyTold : List ℕ → List ℕ → ℕ → ℕ → ℕ → ℕ → Type 0
RightlyTold first_input second_input status better length cost =
    status ≡ 0 → (first second : Offer) → value_of (batch_in first_input) ≡ Ok first → value_of (batch_in second_input) ≡ Ok second
    → NumbersTell first second better length cost
