-- What the questions answer, and what they leave in memory
use Rattle.std.specs.Prelude.{◌≡◌, ℕ, ◌<◌, Bool, cond, ◌||◌, List, ◌++◌, length, drop, is_some, Ok, Err, nat_lt}
use Rattle.refusals.specs.Answer.{Answer, Refused, plain, refused_if}
use Rattle.costs.specs.Kind.{Kind}
use Rattle.tariffs.specs.Meaning.{Meaning}
use Rattle.sheets.specs.Book.{Book}
use Rattle.model.specs.declared.cell.Cell.{Cell}
use Rattle.model.specs.declared.point.Point.{Point}
use Rattle.model.specs.Front.{front}
use Rattle.model.specs.Cell.{cells_needed, table}
use Rattle.model.specs.Limit.{lowest_unquoted, budget_result, deadline_result}
use Rattle.model.specs.Plan.{plan}

module _ {C : Type 0} (T : Meaning C) (book : Book) where
  -- fewer cells than needed
  abbrev pub few_cells : List (Cell C) → Bool
  few_cells cells = nat_lt (length cells) (cells_needed T book)

  -- a plan too short for a byte for each task number
  abbrev pub short_plan : List ℕ → Bool
  short_plan bytes = nat_lt (length bytes) (length book.tasks)

  -- budget and deadline: refusal 7 or 8, or what book, tariff and limit decide
  abbrev pub limit_answer : List (Cell C) → List ℕ → Answer (Point C) → Answer (Point C)
  limit_answer cells bytes result =
      refused_if (few_cells cells) 7
      (refused_if (short_plan bytes) 8
      result)

module _ {C : Type 0} (K : Kind C) (T : Meaning C) (book : Book) where
  -- the cells filled; memory past them keeps its contents
  abbrev pub filled : List (Cell C) → List (Cell C)
  filled cells = table K T book ++ drop (cells_needed T book) cells

  -- front: how many points there are, or refusal 7 or 8
  abbrev pub front_answer : List (Cell C) → List (Point C) → Answer ℕ
  front_answer cells points =
      refused_if (few_cells T book cells) 7
      (refused_if (nat_lt (length points) (length (front K T book))) 8
      (Ok (length (front K T book))))

  -- only 7 leaves the cells alone; 8 comes after they are filled
  abbrev pub front_cells : List (Cell C) → List (Cell C)
  front_cells cells = cond (few_cells T book cells) cells (filled cells)

  -- the points of the front; 7 and 8 leave the points alone
  abbrev pub front_points : List (Cell C) → List (Point C) → List (Point C)
  front_points cells points = elim (front_answer cells points) [ Ok n ↦ front K T book ++ drop n points | Err refused ↦ points ]

  -- budget: a length and cost, or refusal 7 to 10
  abbrev pub budget_answer : C → List (Cell C) → List ℕ → Answer (Point C)
  budget_answer limit cells bytes = limit_answer T book cells bytes (budget_result K T book limit)

  -- the same of a deadline
  abbrev pub deadline_answer : ℕ → List (Cell C) → List ℕ → Answer (Point C)
  deadline_answer limit cells bytes = limit_answer T book cells bytes (deadline_result K T book limit)

  -- 7 to 9 leave the cells alone; 10 comes after they are filled
  abbrev pub limit_cells : List (Cell C) → List ℕ → List (Cell C)
  limit_cells cells bytes = cond (few_cells T book cells || (short_plan T book bytes || is_some (lowest_unquoted T book))) cells (filled cells)

  -- the plan of what was answered; every refusal leaves the bytes alone
  abbrev pub limit_bytes : Answer (Point C) → List ℕ → List ℕ
  limit_bytes (Ok p) bytes = plan K T book p ++ drop (length book.tasks) bytes
  limit_bytes (Err refused) bytes = bytes

  -- the plan's memory after a budget, and after a deadline
  abbrev pub budget_bytes : C → List (Cell C) → List ℕ → List ℕ
  budget_bytes limit cells bytes = limit_bytes (budget_answer limit cells bytes) bytes

  abbrev pub deadline_bytes : ℕ → List (Cell C) → List ℕ → List ℕ
  deadline_bytes limit cells bytes = limit_bytes (deadline_answer limit cells bytes) bytes

-- no question makes memory longer or shorter: what it writes stands in what it was lent
pub record MemoryKept {C : Type 0} (K : Kind C) (T : Meaning C) (book : Book) : Type 0 where
  pub front_cells_kept : (cells : List (Cell C)) → length (front_cells K T book cells) ≡ length cells
  pub front_points_kept : (cells : List (Cell C)) (points : List (Point C)) → length (front_points K T book cells points) ≡ length points
  pub limit_cells_kept : (cells : List (Cell C)) (bytes : List ℕ) → length (limit_cells K T book cells bytes) ≡ length cells
  pub budget_bytes_kept : (limit : C) (cells : List (Cell C)) (bytes : List ℕ) → length (budget_bytes K T book limit cells bytes) ≡ length bytes
  pub deadline_bytes_kept : (limit : ℕ) (cells : List (Cell C)) (bytes : List ℕ) → length (deadline_bytes K T book limit cells bytes) ≡ length bytes

-- for every tariff and book
abbrev pub QuestionsKeepMemory : {C : Type 0} → Kind C → Type 0
QuestionsKeepMemory {C} K = (T : Meaning C) (book : Book) → MemoryKept K T book

-- refused questions alter nothing, but front's 8 and the 10 of a limit come after the cells are filled
pub record RefusedUnaltered {C : Type 0} (K : Kind C) (T : Meaning C) (book : Book) : Type 0 where
  pub front_refused : (cells : List (Cell C)) (points : List (Point C)) (refused : Refused)
      → front_answer K T book cells points ≡ Err refused → front_points K T book cells points ≡ points
  pub front_few : (cells : List (Cell C)) (points : List (Point C)) → front_answer K T book cells points ≡ Err (plain 7) → front_cells K T book cells ≡ cells
  pub front_short : (cells : List (Cell C)) (points : List (Point C)) → front_answer K T book cells points ≡ Err (plain 8) → front_cells K T book cells ≡ filled K T book cells
  pub budget_refused : (limit : C) (cells : List (Cell C)) (bytes : List ℕ) (refused : Refused)
      → budget_answer K T book limit cells bytes ≡ Err refused → budget_bytes K T book limit cells bytes ≡ bytes
  pub budget_early : (limit : C) (cells : List (Cell C)) (bytes : List ℕ) (refused : Refused)
      → budget_answer K T book limit cells bytes ≡ Err refused → refused.number < 10 → limit_cells K T book cells bytes ≡ cells
  pub budget_late : (limit : C) (cells : List (Cell C)) (bytes : List ℕ)
      → budget_answer K T book limit cells bytes ≡ Err (plain 10) → limit_cells K T book cells bytes ≡ filled K T book cells
  pub deadline_refused : (limit : ℕ) (cells : List (Cell C)) (bytes : List ℕ) (refused : Refused)
      → deadline_answer K T book limit cells bytes ≡ Err refused → deadline_bytes K T book limit cells bytes ≡ bytes
  pub deadline_early : (limit : ℕ) (cells : List (Cell C)) (bytes : List ℕ) (refused : Refused)
      → deadline_answer K T book limit cells bytes ≡ Err refused → refused.number < 10 → limit_cells K T book cells bytes ≡ cells
  pub deadline_late : (limit : ℕ) (cells : List (Cell C)) (bytes : List ℕ)
      → deadline_answer K T book limit cells bytes ≡ Err (plain 10) → limit_cells K T book cells bytes ≡ filled K T book cells

-- for every tariff and book
abbrev pub RefusedQuestionsAlterNothing : {C : Type 0} → Kind C → Type 0
RefusedQuestionsAlterNothing {C} K = (T : Meaning C) (book : Book) → RefusedUnaltered K T book
