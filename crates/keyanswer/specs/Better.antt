-- Which of two inputs, a card and a sheet each, has the better bargain
use Rattle.std.specs.Prelude.{◌≡◌, ℕ, ◌≤◌, cond, ◌||◌, List, [], ◌∷◌, length, Some, None, Ok, Err, Option, Result, ◌==◌}
use Rattle.refusals.specs.Answer.{Answer, refused_if}
use Rattle.costs.specs.Cents.{cents_kind}
use Rattle.costs.specs.declared.cents.Cents.{Cents}
use Rattle.texts.specs.declared.word.Word.{Word}
use Rattle.texts.specs.declared.word.Word.TheVariants as word
use Rattle.texts.specs.Line.{line}
use Rattle.texts.specs.RefusalLine.{number_words}
use Rattle.numbers.specs.Input.{value_of}
use Rattle.model.specs.declared.better.Better.{Better}
use Rattle.model.specs.declared.better.Better.TheVariants.{First, Second}
use Rattle.model.specs.declared.cell.Cell.{Cell}
use Rattle.model.specs.declared.point.Point.{Point}
use Rattle.model.specs.Better.{better}
use Rattle.planner.specs.Bargain.{bargains_cells, bargains_first_points, bargains_second_points}
use Rattle.planner.specs.Better.{better_answer, BetterTells}
use Rattle.keyinput.specs.Batch.{Offer, batch_in}
use Rattle.keyanswer.specs.declared.refusal.CompareRefusal.{CompareRefusal}
use Rattle.keyanswer.specs.Compare.{offered, few_cells_for, few_points_for, RefusedAt, refused_at, about_input}
use Rattle.keyanswer.specs.Refusal.{compare_told, which_input}

-- the offer that has the better bargain, with its pair; none if both offer the same bargains
abbrev pub better_offer : Offer → Offer → Option (Better Cents)
better_offer first second = better cents_kind (offered first) first.book (offered second) second.book

-- what the question answers on two offers, and what it leaves, with one memory of cells for both and points for each
module _ (cells : List (Cell Cents)) (first_points second_points : List (Point Cents)) where
  abbrev pub offers_answered : Offer → Offer → Answer (Option (Better Cents))
  offers_answered first second =
      better_answer cents_kind (offered first) first.book (offered second) second.book cells first_points second_points

  abbrev pub cells_left : Offer → Offer → List (Cell Cents)
  cells_left first second =
      bargains_cells cents_kind (offered first) first.book (offered second) second.book cells first_points second_points

  abbrev pub first_points_left : Offer → Offer → List (Point Cents)
  first_points_left first second =
      bargains_first_points cents_kind (offered first) first.book (offered second) second.book cells first_points second_points

  abbrev pub second_points_left : Offer → Offer → List (Point Cents)
  second_points_left first second =
      bargains_second_points cents_kind (offered first) first.book (offered second) second.book cells first_points second_points

-- the same with the cells and points of a key
abbrev pub offers_better : Offer → Offer → Answer (Option (Better Cents))
offers_better first second =
    refused_if (few_cells_for first || few_cells_for second) 7
    (refused_if (few_points_for first || few_points_for second) 8
    (Ok (better_offer first second)))

-- the first input is read, then the second, and then both are asked
abbrev pub both_asked : {A : Type 0} → (Offer → Offer → Answer A) → Answer Offer → Answer Offer → Result A RefusedAt
both_asked ask (Ok first) (Ok second) = about_input 0 (ask first second)
both_asked ask (Ok first) (Err refused) = Err (refused_at 2 refused)
both_asked ask (Err refused) second = Err (refused_at 1 refused)

-- what the question leaves where both inputs were read, else what was there
abbrev pub both_left : {A : Type 0} → A → (Offer → Offer → A) → Answer Offer → Answer Offer → A
both_left was left (Ok first) (Ok second) = left first second
both_left was left (Ok first) (Err refused) = was
both_left was left (Err refused) second = was

module _ (first_input second_input : List ℕ) where
  -- the verdict on two inputs, or the refusal and the input that it is about, with memory enough
  abbrev pub verdict_on : Result (Option (Better Cents)) RefusedAt
  verdict_on =
      both_asked (λ first second. Ok (better_offer first second))
      (value_of (batch_in first_input)) (value_of (batch_in second_input))

  -- the same with the cells and points of a key
  abbrev pub key_verdict : Result (Option (Better Cents)) RefusedAt
  key_verdict = both_asked offers_better (value_of (batch_in first_input)) (value_of (batch_in second_input))

  module _ (cells : List (Cell Cents)) (first_points second_points : List (Point Cents)) where
    -- the same with this memory, and what it leaves there
    abbrev pub verdict_within : Result (Option (Better Cents)) RefusedAt
    verdict_within =
        both_asked (offers_answered cells first_points second_points)
        (value_of (batch_in first_input)) (value_of (batch_in second_input))

    abbrev pub cells_behind : List (Cell Cents)
    cells_behind =
        both_left cells (cells_left cells first_points second_points)
        (value_of (batch_in first_input)) (value_of (batch_in second_input))

    abbrev pub first_points_behind : List (Point Cents)
    first_points_behind =
        both_left first_points (first_points_left cells first_points second_points)
        (value_of (batch_in first_input)) (value_of (batch_in second_input))

    abbrev pub second_points_behind : List (Point Cents)
    second_points_behind =
        both_left second_points (second_points_left cells first_points second_points)
        (value_of (batch_in first_input)) (value_of (batch_in second_input))

-- what the call returned, in that form
abbrev pub better_heard : Result (Option (Better Cents)) CompareRefusal → Result (Option (Better Cents)) RefusedAt
better_heard (Ok verdict) = Ok verdict
better_heard (Err refusal) = Err (refused_at (which_input refusal) (compare_told refusal))

-- the verdict in words, for the cards and sheets that the two inputs spell
abbrev pub BatchesTell : List ℕ → List ℕ → Result (Option (Better Cents)) CompareRefusal → Type 0
BatchesTell first_input second_input (Ok verdict) =
    (first second : Offer) → value_of (batch_in first_input) ≡ Ok first → value_of (batch_in second_input) ≡ Ok second
    → BetterTells cents_kind (offered first) first.book (offered second) second.book (Ok verdict)
BatchesTell first_input second_input (Err refusal) = Unit {0}

-- no sheet needs more cells than these, and no front is longer than these points
abbrev pub most_cells : ℕ
most_cells = 391697

abbrev pub most_points : ℕ
most_points = 23041

-- memory in which every two sheets can be compared
pub record Roomy (cells : List (Cell Cents)) (first_points second_points : List (Point Cents)) : Type 0 where
  pub cells_enough : most_cells ≤ length cells
  pub first_enough : most_points ≤ length first_points
  pub second_enough : most_points ≤ length second_points

-- the words of a verdict: the sheet that has the better bargain, with its length and cost, or `same`
abbrev pub pair_words : Point Cents → List Word
pair_words p = word.Number p.length ∷ (word.Number p.cost.value ∷ [])

abbrev pub better_words : Option (Better Cents) → List Word
better_words None = word.Same ∷ []
better_words (Some (First p)) = word.First ∷ pair_words p
better_words (Some (Second p)) = word.Second ∷ pair_words p

-- `refused`, the input that it is about, if one, the refusal's number, and the value that it carries, if any
abbrev pub refused_words : RefusedAt → List Word
refused_words at =
    cond (at.about == 1) (word.Refused ∷ (word.First ∷ number_words at.refused))
    (cond (at.about == 2) (word.Refused ∷ (word.Second ∷ number_words at.refused))
    (word.Refused ∷ number_words at.refused))

-- the line of a verdict
abbrev pub verdict_line : Result (Option (Better Cents)) RefusedAt → List ℕ
verdict_line (Ok verdict) = line (better_words verdict)
verdict_line (Err at) = line (refused_words at)

-- the exit status that tells it: 0 for the same bargains, 1 for different ones, 2 for what is refused
abbrev pub verdict_status : Result (Option (Better Cents)) RefusedAt → ℕ
verdict_status (Ok None) = 0
verdict_status (Ok (Some better)) = 1
verdict_status (Err at) = 2
