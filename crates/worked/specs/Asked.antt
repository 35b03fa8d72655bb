-- Questions asked with memory enough, or with too few cells, whatever the memory held before
use Rattle.std.specs.Prelude.{◌≡◌, ℕ, ◌≤◌, List, ◌++◌, length, drop, Ok, Err}
use Rattle.refusals.specs.Answer.{Answer, Refused, plain}
use Rattle.costs.specs.Kind.{Kind}
use Rattle.tariffs.specs.Meaning.{Meaning}
use Rattle.sheets.specs.Book.{Book}
use Rattle.model.specs.declared.cell.Cell.{Cell}
use Rattle.model.specs.declared.point.Point.{Point}
use Rattle.model.specs.Cell.{cells_needed}
use Rattle.model.specs.Question.{filled, front_answer, front_cells, front_points, budget_answer, budget_bytes, deadline_answer, deadline_bytes, limit_cells}

module _ {C : Type 0} (K : Kind C) (T : Meaning C) (book : Book) where
  -- what a question answers, and what it leaves in the bytes, by the cells and bytes that it was lent
  abbrev pub Answers : Type 0
  Answers = List (Cell C) → List ℕ → Answer (Point C)

  abbrev pub Leaves : Type 0
  Leaves = List (Cell C) → List ℕ → List ℕ

  -- it is answered by this pair, and this plan is written at the start of the bytes
  abbrev pub Gives : Answers → Leaves → Point C → List ℕ → Type 0
  Gives answer after p plan =
      (cells : List (Cell C)) (bytes : List ℕ) → cells_needed T book ≤ length cells → length book.tasks ≤ length bytes
      → (answer cells bytes ≡ Ok p) × (after cells bytes ≡ plan ++ drop (length plan) bytes)

  -- it is refused, and the bytes are left as they were
  abbrev pub Refuses : Answers → Leaves → Refused → Type 0
  Refuses answer after refused =
      (cells : List (Cell C)) (bytes : List ℕ) → cells_needed T book ≤ length cells → length book.tasks ≤ length bytes
      → (answer cells bytes ≡ Err refused) × (after cells bytes ≡ bytes)

  abbrev pub BudgetGives : C → Point C → List ℕ → Type 0
  BudgetGives limit = Gives (budget_answer K T book limit) (budget_bytes K T book limit)

  abbrev pub BudgetRefused : C → Refused → Type 0
  BudgetRefused limit = Refuses (budget_answer K T book limit) (budget_bytes K T book limit)

  abbrev pub DeadlineGives : ℕ → Point C → List ℕ → Type 0
  DeadlineGives limit = Gives (deadline_answer K T book limit) (deadline_bytes K T book limit)

  abbrev pub DeadlineRefused : ℕ → Refused → Type 0
  DeadlineRefused limit = Refuses (deadline_answer K T book limit) (deadline_bytes K T book limit)

  -- front returns how many points there are, writes them at the start of what was lent for them, and fills the cells
  abbrev pub FrontGives : List (Point C) → Type 0
  FrontGives front =
      (cells : List (Cell C)) (points : List (Point C)) → cells_needed T book ≤ length cells → length front ≤ length points
      → (front_answer K T book cells points ≡ Ok (length front))
      × ((front_points K T book cells points ≡ front ++ drop (length front) points)
      × (front_cells K T book cells ≡ filled K T book cells))

  -- with this many cells it is refused by 7, and neither the cells nor what was lent for its result are altered
  abbrev pub FrontTooFew : ℕ → Type 0
  FrontTooFew count =
      (cells : List (Cell C)) (points : List (Point C)) → length cells ≡ count
      → (front_answer K T book cells points ≡ Err (plain 7))
      × ((front_points K T book cells points ≡ points)
      × (front_cells K T book cells ≡ cells))

  abbrev pub LimitTooFew : Answers → Leaves → ℕ → Type 0
  LimitTooFew answer after count =
      (cells : List (Cell C)) (bytes : List ℕ) → length cells ≡ count
      → (answer cells bytes ≡ Err (plain 7))
      × ((after cells bytes ≡ bytes)
      × (limit_cells K T book cells bytes ≡ cells))

  abbrev pub BudgetTooFew : C → ℕ → Type 0
  BudgetTooFew limit = LimitTooFew (budget_answer K T book limit) (budget_bytes K T book limit)

  abbrev pub DeadlineTooFew : ℕ → ℕ → Type 0
  DeadlineTooFew limit = LimitTooFew (deadline_answer K T book limit) (deadline_bytes K T book limit)
