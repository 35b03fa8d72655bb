-- What the questions answer is read off the front
use Rattle.std.specs.Prelude.{◌≡◌, ℕ, ◌↔◌, ◌≢◌, List, take, Ok, Err, Result}
use Rattle.costs.specs.Kind.{Kind}
use Rattle.tariffs.specs.Meaning.{Meaning}
use Rattle.sheets.specs.Book.{Book}
use Rattle.model.specs.declared.point.Point.{Point}
use Rattle.model.specs.Assignment.{HasAssignment}
use Rattle.model.specs.FrontAnswers.{PointBelowEachPair, FrontDecidesBudget, FrontDecidesDeadline}
use Rattle.planner.specs.declared.refusal.QuestionRefusal.{QuestionRefusal}
use Rattle.planner.specs.declared.refusal.QuestionRefusal.TheVariants.{TooFewCells, TooShort, Unquoted, NoneWithin}

-- neither the cells nor the bytes were too few
abbrev pub MemorySuffices : {A : Type 0} → Result A QuestionRefusal → Type 0
MemorySuffices result = (result ≢ Err TooFewCells) × (result ≢ Err TooShort)

module _ {C : Type 0} (K : Kind C) (T : Meaning C) (book : Book) where
  -- below every pair that an assignment has there is one of the points written
  unfoldable pub FrontBelow : List (Point C) → Result ℕ QuestionRefusal → Type 0
  FrontBelow points (Ok count) = PointBelowEachPair K T book (take count points)
  FrontBelow points (Err refusal) = Unit {0}

  -- there is no point exactly where there is no assignment
  unfoldable pub FrontEmpty : Result ℕ QuestionRefusal → Type 0
  FrontEmpty (Ok count) = (count ≡ 0) ↔ (HasAssignment T book → ⊥)
  FrontEmpty (Err refusal) = Unit {0}

  -- with memory enough the front decides what a budget is answered, and what a deadline is
  unfoldable pub BudgetOffTheFront : C → Result (Point C) QuestionRefusal → Type 0
  BudgetOffTheFront limit result =
      MemorySuffices result
      → FrontDecidesBudget K T book limit
      (λ p. result ≡ Ok p) ((task : ℕ) × (result ≡ Err (Unquoted task))) (result ≡ Err NoneWithin)

  unfoldable pub DeadlineOffTheFront : ℕ → Result (Point C) QuestionRefusal → Type 0
  DeadlineOffTheFront limit result =
      MemorySuffices result
      → FrontDecidesDeadline K T book limit
      (λ p. result ≡ Ok p) ((task : ℕ) × (result ≡ Err (Unquoted task))) (result ≡ Err NoneWithin)
