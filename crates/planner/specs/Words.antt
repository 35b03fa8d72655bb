-- What the questions answer, in words
use Rattle.std.specs.Prelude.{◌≡◌, ℕ, ◌≤◌, List, length, take, Ok, Err, Result}
use Rattle.costs.specs.Kind.{Kind}
use Rattle.tariffs.specs.Meaning.{Meaning}
use Rattle.sheets.specs.Book.{Book}
use Rattle.model.specs.declared.point.Point.{Point}
use Rattle.model.specs.Assignment.{standing, HasPair}
use Rattle.model.specs.Front.{IsFront}
use Rattle.model.specs.Limit.{IsBudget, IsDeadline, IsLowestUnquoted, TooDear, TooLong}
use Rattle.model.specs.Plan.{IsPlan}
use Rattle.planner.specs.declared.refusal.QuestionRefusal.{QuestionRefusal}
use Rattle.planner.specs.declared.refusal.QuestionRefusal.TheVariants.{TooFewCells, TooShort, Unquoted, NoneWithin}

module _ {C : Type 0} (K : Kind C) (T : Meaning C) (book : Book) where
  -- as many points as are answered are the front, by rising length
  abbrev pub FrontTells : List (Point C) → Result ℕ QuestionRefusal → Type 0
  FrontTells points (Ok count) = (count ≤ length points) × IsFront K T (standing book) (take count points)
  FrontTells points (Err refusal) = Unit {0}

  -- the bytes, one for each task number, are the plan of a length and cost, and no others are
  abbrev pub HasPlan : Point C → List ℕ → Type 0
  HasPlan p bytes = (length book.tasks ≤ length bytes) × IsPlan K T book p (take (length book.tasks) bytes)
      × ((others : List ℕ) → IsPlan K T book p others → others ≡ take (length book.tasks) bytes)

  -- the best pair within a limit, with its plan; the lowest standing task without a quote; or that every pair is too much
  abbrev pub LimitTells : (IsBest TooMuch : Point C → Type 0) → List ℕ → Result (Point C) QuestionRefusal → Type 0
  LimitTells IsBest TooMuch bytes (Ok p) = IsBest p × HasPlan p bytes
  LimitTells IsBest TooMuch bytes (Err TooFewCells) = Unit {0}
  LimitTells IsBest TooMuch bytes (Err TooShort) = Unit {0}
  LimitTells IsBest TooMuch bytes (Err (Unquoted task)) = IsLowestUnquoted T book task
  LimitTells IsBest TooMuch bytes (Err NoneWithin) = (p : Point C) → HasPair K T (standing book) p → TooMuch p

  -- what a budget tells, and what a deadline does
  abbrev pub BudgetTells : C → List ℕ → Result (Point C) QuestionRefusal → Type 0
  BudgetTells limit = LimitTells (IsBudget K T (standing book) limit) (TooDear K limit)

  abbrev pub DeadlineTells : ℕ → List ℕ → Result (Point C) QuestionRefusal → Type 0
  DeadlineTells limit = LimitTells (IsDeadline K T (standing book) limit) (TooLong limit)
