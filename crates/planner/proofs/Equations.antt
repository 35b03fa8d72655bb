-- What the two equations say of what `budget` and `deadline` return
use Rattle.std.proofs.Common.{◌≡◌, ℕ, List, Ok, Err, Result, Option, sym, subst, arith}
use Rattle.std.specs.Option.{option_map}
use Rattle.std.specs.Result.{result_ok}
use Rattle.refusals.specs.Answer.{Answer, plain, carrying, answer_of}
use Rattle.costs.specs.Kind.{Kind, Laws}
use Rattle.tariffs.specs.Meaning.{Meaning, Ranged}
use Rattle.sheets.specs.declared.sheet.Sheet.{Sheet}
use Rattle.sheets.specs.Book.{Book, book}
use Rattle.sheets.proofs.Books.{passed}
use Rattle.sheets.proofs.Calls.{of_every_sheet}
use Rattle.model.specs.declared.cell.Cell.{Cell}
use Rattle.model.specs.declared.point.Point.{Point}
use Rattle.model.specs.Assignment.{standing}
use Rattle.model.specs.Equations.{BudgetTime, BudgetTimeAtOnce, DeadlineCost, SharedOut}
use Rattle.model.specs.Limit.{budget_result, deadline_result}
use Rattle.model.specs.Question.{few_cells, short_plan, limit_answer}
use Rattle.model.proofs.Equations.{limits_are_shared_out}
use Rattle.planner.specs.declared.refusal.QuestionRefusal.{QuestionRefusal}
use Rattle.planner.specs.declared.refusal.QuestionRefusal.TheVariants.{TooFewCells, TooShort, Unquoted, NoneWithin}
use Rattle.planner.specs.Equations.{ValueReturned, BudgetEquation, BudgetEquationAtOnce, DeadlineEquation}
use Rattle.planner.specs.Refusal.{question_told}
use Rattle.planner.proofs.Words.{refused_behind}

module _ {C : Type 0} {K : Kind C} (laws : Laws K) (T : Meaning C) (ranged : Ranged T) (sheet : Sheet) (cells : List (Cell C)) (bytes : List ℕ) where
  abbrev b : Book
  b = book sheet

  shared_out : SharedOut K T b
  shared_out = of_every_sheet (SharedOut K T) (limits_are_shared_out laws T ranged) sheet

  -- the equation holds of whatever is answered with this result behind 7 and 8
  abbrev Holds : (Result (Point C) QuestionRefusal → Type 0) → Answer (Point C) → Type 0
  Holds Equation result = (r : Result (Point C) QuestionRefusal) → answer_of question_told r ≡ limit_answer T b cells bytes result → Equation r

  returned : {V : Type 0} (value : Point C → V) (IsValue : Option V → Type 0) (result : Answer (Point C)) → IsValue (option_map value (result_ok result)) → Holds (ValueReturned value IsValue) result
  returned value IsValue result is (Ok p) e =
      subst (λ (answer : Answer (Point C)). IsValue (option_map value (result_ok answer))) (sym (passed (short_plan T b bytes) 8 _ p (passed (few_cells T b cells) 7 _ p e).1).1) is
  returned value IsValue result is (Err TooFewCells) e = tt
  returned value IsValue result is (Err TooShort) e = tt
  returned value IsValue result is (Err (Unquoted task)) e =
      subst (λ (answer : Answer (Point C)). IsValue (option_map value (result_ok answer))) (refused_behind _ _ _ (carrying 9 task) (omega arith) e) is
  returned value IsValue result is (Err NoneWithin) e =
      subst (λ (answer : Answer (Point C)). IsValue (option_map value (result_ok answer))) (refused_behind _ _ _ (plain 10) (omega arith) e) is

  pub budget_equation : (limit : C) → Holds (BudgetEquation K T b limit) (budget_result K T b limit)
  budget_equation limit = returned (λ (p : Point C). p.length) (BudgetTime K T (standing b) limit) (budget_result K T b limit)
      (shared_out.budget limit)

  pub budget_equation_at_once : (limit : C) → Holds (BudgetEquationAtOnce K T b limit) (budget_result K T b limit)
  budget_equation_at_once limit = returned (λ (p : Point C). p.length) (BudgetTimeAtOnce K T (standing b) limit) (budget_result K T b limit)
      ((shared_out.at_once (standing b) limit _).0 (shared_out.budget limit))

  pub deadline_equation : (limit : ℕ) → Holds (DeadlineEquation K T b limit) (deadline_result K T b limit)
  deadline_equation limit = returned (λ (p : Point C). p.cost) (DeadlineCost K T (standing b) limit) (deadline_result K T b limit)
      (shared_out.deadline limit)
