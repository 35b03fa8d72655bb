-- What the two equations say of what `budget` and `deadline` return
use Rattle.std.specs.Prelude.{ℕ, Some, None, Ok, Err, Option, Result}
use Rattle.costs.specs.Kind.{Kind}
use Rattle.tariffs.specs.Meaning.{Meaning}
use Rattle.sheets.specs.Book.{Book}
use Rattle.model.specs.declared.point.Point.{Point}
use Rattle.model.specs.Assignment.{standing}
use Rattle.model.specs.Equations.{BudgetTime, BudgetTimeAtOnce, DeadlineCost}
use Rattle.planner.specs.declared.refusal.QuestionRefusal.{QuestionRefusal}
use Rattle.planner.specs.declared.refusal.QuestionRefusal.TheVariants.{TooFewCells, TooShort, Unquoted, NoneWithin}

-- an equation's value is that of the pair returned, or there is none where 9 or 10 is; of 7 and 8 nothing is said
abbrev pub ValueReturned : {C V : Type 0} → (Point C → V) → (Option V → Type 0) → Result (Point C) QuestionRefusal → Type 0
ValueReturned value IsValue (Ok p) = IsValue (Some (value p))
ValueReturned value IsValue (Err TooFewCells) = Unit {0}
ValueReturned value IsValue (Err TooShort) = Unit {0}
ValueReturned value IsValue (Err (Unquoted task)) = IsValue None
ValueReturned value IsValue (Err NoneWithin) = IsValue None

module _ {C : Type 0} (K : Kind C) (T : Meaning C) (book : Book) where
  -- the length returned is T(limit): the limit shared out among the stages, and each share among the stage's tasks
  abbrev pub BudgetEquation : C → Result (Point C) QuestionRefusal → Type 0
  BudgetEquation limit = ValueReturned (λ p. p.length) (BudgetTime K T (standing book) limit)

  -- the same with the limit shared out among stages and tasks at once
  abbrev pub BudgetEquationAtOnce : C → Result (Point C) QuestionRefusal → Type 0
  BudgetEquationAtOnce limit = ValueReturned (λ p. p.length) (BudgetTimeAtOnce K T (standing book) limit)

  -- the cost returned is C(limit): the limit shared out among the stages
  abbrev pub DeadlineEquation : ℕ → Result (Point C) QuestionRefusal → Type 0
  DeadlineEquation limit = ValueReturned (λ p. p.cost) (DeadlineCost K T (standing book) limit)
