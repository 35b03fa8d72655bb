-- Whether two inputs, a card and a sheet each, offer the same bargains
use Rattle.std.specs.Prelude.{◌≡◌, ℕ, Bool, ◌||◌, List, length, Ok, Err, Result, nat_lt}
use Rattle.refusals.specs.Answer.{Answer, Refused, refused_if}
use Rattle.costs.specs.Cents.{cents_kind}
use Rattle.costs.specs.declared.cents.Cents.{Cents}
use Rattle.tariffs.specs.Card.{lines_meaning}
use Rattle.tariffs.specs.Meaning.{Meaning}
use Rattle.numbers.specs.Input.{value_of}
use Rattle.model.specs.declared.point.Point.{Point}
use Rattle.model.specs.Cell.{cells_needed}
use Rattle.model.specs.Front.{front}
use Rattle.model.specs.Bargain.{Verdict}
use Rattle.planner.specs.Bargain.{same_points}
use Rattle.keyinput.specs.Batch.{Offer, batch_in}
use Rattle.keyanswer.specs.declared.refusal.CompareRefusal.{CompareRefusal}
use Rattle.keyanswer.specs.Answer.{key_cells, key_points}
use Rattle.keyanswer.specs.Refusal.{compare_told, which_input}

abbrev pub offered : Offer → Meaning Cents
offered o = lines_meaning o.lines

abbrev pub front_of : Offer → List (Point Cents)
front_of o = front cents_kind (offered o) o.book

abbrev pub few_cells_for : Offer → Bool
few_cells_for o = nat_lt key_cells (cells_needed (offered o) o.book)

abbrev pub few_points_for : Offer → Bool
few_points_for o = nat_lt key_points (length (front_of o))

-- whether the fronts are equal, or refusal 7 or 8
abbrev pub offers_answer : Offer → Offer → Answer Bool
offers_answer first second =
    refused_if (few_cells_for first || few_cells_for second) 7
    (refused_if (few_points_for first || few_points_for second) 8
    (Ok (same_points cents_kind (front_of first) (front_of second))))

-- a refusal with the input that it is about: 1, 2, or 0 for both
pub record RefusedAt : Type 0 where
  pub about : ℕ
  pub refused : Refused

abbrev pub refused_at : ℕ → Refused → RefusedAt
refused_at about refused = record { about = about; refused = refused }

abbrev pub about_input : {A : Type 0} → ℕ → Answer A → Result A RefusedAt
about_input n (Ok a) = Ok a
about_input n (Err refused) = Err (refused_at n refused)

-- the first input is read, then the second, then both are compared
abbrev pub second_read : Offer → Answer Offer → Result Bool RefusedAt
second_read first (Ok second) = about_input 0 (offers_answer first second)
second_read first (Err refused) = Err (refused_at 2 refused)

abbrev pub first_read : Answer Offer → Answer Offer → Result Bool RefusedAt
first_read (Ok first) second = second_read first second
first_read (Err refused) second = Err (refused_at 1 refused)

abbrev pub compare_answer : List ℕ → List ℕ → Result Bool RefusedAt
compare_answer first_input second_input = first_read (value_of (batch_in first_input)) (value_of (batch_in second_input))

-- what the call returned, in that form
abbrev pub heard : Result Bool CompareRefusal → Result Bool RefusedAt
heard (Ok equal) = Ok equal
heard (Err refusal) = Err (refused_at (which_input refusal) (compare_told refusal))

-- the verdict is right: the whole statement holds of it, for the cards and sheets that the inputs spell
abbrev pub Judged : List ℕ → List ℕ → Result Bool CompareRefusal → Type 0
Judged first_input second_input (Ok equal) =
    (first second : Offer) → value_of (batch_in first_input) ≡ Ok first → value_of (batch_in second_input) ≡ Ok second
    → Verdict cents_kind (offered first) first.book (offered second) second.book equal
Judged first_input second_input (Err refusal) = Unit {0}
