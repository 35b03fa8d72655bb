-- Budgets and deadlines as one
use Rattle.std.specs.Prelude.{ℕ, ◌+◌, ◌-◌, min, List, length, Some, None, Ok, Err, Option, nat_lt}
use Rattle.refusals.specs.Answer.{Answer, carrying, refused_if}
use Rattle.costs.specs.Kind.{Kind}
use Rattle.tariffs.specs.Meaning.{Meaning}
use Rattle.sheets.specs.Book.{Book}
use Rattle.sheets.specs.declared.task.Task.{Task}
use Rattle.model.specs.declared.cell.Cell.{Cell}
use Rattle.model.specs.declared.point.Point.{Point}
use Rattle.model.specs.Question.{few_cells}
use Rattle.model.specs.Limit.{lowest_unquoted, or_none_within, unless_unquoted, within_budget, within_deadline}
use Rattle.model.specs.Assignment.{standing}
use Rattle.model.specs.Scan.{first_below}
use Rattle.planner.specs.declared.limit.Limit.{Limit}
use Rattle.planner.specs.declared.limit.Limit.TheVariants.{Budget, Deadline}

module _ {C : Type 0} (K : Kind C) (T : Meaning C) where
  -- the best pair within the limit, if any
  abbrev pub within_limit : List (List Task) → Limit C → Option (Point C)
  within_limit stages (Budget cost) = within_budget K T stages cost
  within_limit stages (Deadline minutes) = within_deadline K T stages minutes

  -- what book, tariff and limit decide
  abbrev pub result_of : Book → Limit C → Answer (Point C)
  result_of book limit = unless_unquoted (lowest_unquoted T book) (or_none_within (within_limit (standing book) limit))

-- what is refused before any cell is written: 7, 8 or 9
abbrev pub limit_check : {C : Type 0} → Meaning C → Book → List (Cell C) → ℕ → Answer (Unit {0})
limit_check T book cells bytes =
    refused_if (few_cells T book cells) 7
    (refused_if (nat_lt bytes (length book.tasks)) 8
    (elim (lowest_unquoted T book) [ Some task ↦ Err (carrying 9 task) | None ↦ Ok tt ]))

module _ {C : Type 0} (K : Kind C) where
  -- the cost at the last minute allowed, and the first minute with a cost no greater
  abbrev pub row_deadline : (ℕ → Option C) → ℕ → Option C → Option (Point C)
  row_deadline costs last None = None
  row_deadline costs last (Some cost) = first_below K costs cost (last + 1)

  -- the pair within the limit that a row of costs tells
  abbrev pub row_within : (ℕ → Option C) → ℕ → Limit C → Option (Point C)
  row_within costs width (Budget cost) = first_below K costs cost width
  row_within costs width (Deadline minutes) = row_deadline costs (min minutes (width - 1)) (costs (min minutes (width - 1)))
