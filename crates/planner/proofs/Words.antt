-- What the questions answer, in words
use Rattle.std.proofs.Common.{◌≡◌, ℕ, ◌<◌, ◌≤◌, Bool, true, false, List, ◌++◌, length, take, drop, Ok, Err, Result, refl, sym, ap, ◌∙◌, subst, arith, length-append}
use Rattle.std.proofs.lemmas.List.{take_at, length-map}
use Rattle.refusals.specs.Answer.{Answer, Refused, plain, carrying, answer_of, refused_if}
use Rattle.costs.specs.Kind.{Kind, Laws}
use Rattle.tariffs.specs.Meaning.{Meaning, Ranged}
use Rattle.sheets.specs.declared.sheet.Sheet.{Sheet}
use Rattle.sheets.specs.Book.{Book, book}
use Rattle.sheets.proofs.Books.{passed}
use Rattle.sheets.proofs.Calls.{of_every_sheet}
use Rattle.model.specs.declared.cell.Cell.{Cell}
use Rattle.model.specs.declared.point.Point.{Point}
use Rattle.model.specs.Assignment.{standing, HasPair}
use Rattle.model.specs.Front.{front, IsFront}
use Rattle.model.specs.Limit.{budget_result, deadline_result, IsBudget, IsDeadline, IsLowestUnquoted, LimitsInWords, TooDear, TooLong}
use Rattle.model.specs.Plan.{plan, allowances_for, byte_under, IsPlan, Planned}
use Rattle.model.specs.Question.{few_cells, short_plan, limit_answer, limit_bytes}
use Rattle.model.proofs.FrontsInWords.{front_in_words}
use Rattle.model.proofs.LimitsInWords.{limits_give_best_pairs}
use Rattle.model.proofs.Plans.{plans_go_by_the_first_list}
use Rattle.planner.specs.declared.refusal.QuestionRefusal.{QuestionRefusal}
use Rattle.planner.specs.declared.refusal.QuestionRefusal.TheVariants.{TooFewCells, TooShort, Unquoted, NoneWithin}
use Rattle.planner.specs.Refusal.{question_told}
use Rattle.planner.specs.Words.{HasPlan, LimitTells, BudgetTells, DeadlineTells}

-- a refusal behind 7 and 8
pub refused_behind : {A : Type 0} (few short : Bool) (result : Answer A) (refused : Refused) → 8 < refused.number → Err refused ≡ refused_if few 7 (refused_if short 8 result) → result ≡ Err refused
refused_behind true short result refused h e = let n : refused.number ≡ 7 = cc in absurd (omega arith)
refused_behind false true result refused h e = let n : refused.number ≡ 8 = cc in absurd (omega arith)
refused_behind false false result refused h e = sym e

-- what the result of a limit says, be it a budget or a deadline
pub record ResultSays {C : Type 0} (K : Kind C) (T : Meaning C) (b : Book) (IsBest TooMuch : Point C → Type 0) (result : Answer (Point C)) : Type 0 where
  pub best : (p : Point C) → result ≡ Ok p → IsBest p × IsPlan K T b p (plan K T b p) × ((others : List ℕ) → IsPlan K T b p others → others ≡ plan K T b p)
  pub unquoted : (task : ℕ) → result ≡ Err (carrying 9 task) → IsLowestUnquoted T b task
  pub none_within : result ≡ Err (plain 10) → (p : Point C) → HasPair K T (standing b) p → TooMuch p

module _ {C : Type 0} {K : Kind C} (laws : Laws K) (T : Meaning C) (ranged : Ranged T) where
  pub front_tells : (b : Book) (count : ℕ) (points after : List (Point C)) → count ≡ length (front K T b) → after ≡ front K T b ++ drop (length (front K T b)) points → (count ≤ length after) × IsFront K T (standing b) (take count after)
  front_tells b count points after counted written =
      let whole = ap length written in
      let longer = length-append (front K T b) (drop (length (front K T b)) points) in (
        omega arith,
        (front_in_words laws T ranged (standing b) (take count after)).1 (ap (take count) written ∙ take_at (front K T b) _ _ (sym counted)),
      )

  pub limits_of : (sheet : Sheet) → LimitsInWords K T (book sheet)
  limits_of = of_every_sheet (LimitsInWords K T) (limits_give_best_pairs laws T ranged)

  plans_of : (sheet : Sheet) → Planned K T (book sheet)
  plans_of = of_every_sheet (Planned K T) (plans_go_by_the_first_list laws T ranged)

  -- the plan stands at the start of what was written
  has_plan : (b : Book) (p : Point C) (bytes after : List ℕ) → IsPlan K T b p (plan K T b p) → ((others : List ℕ) → IsPlan K T b p others → others ≡ plan K T b p) → after ≡ plan K T b p ++ drop (length b.tasks) bytes → HasPlan K T b p after
  has_plan b p bytes after planned alone written =
      let long : length (plan K T b p) ≡ length b.tasks = length-map b.tasks (byte_under K T (allowances_for K T b p)) in
      let whole = ap length written in
      let longer = length-append (plan K T b p) (drop (length b.tasks) bytes) in
      let start : take (length b.tasks) after ≡ plan K T b p = ap (take (length b.tasks)) written ∙ take_at (plan K T b p) _ _ long in
      (omega arith, subst (IsPlan K T b p) (sym start) planned, λ others is. alone others is ∙ sym start)

  module _ (sheet : Sheet) where
    abbrev b : Book
    b = book sheet

    pub budget_says : (limit : C) → ResultSays K T b (IsBudget K T (standing b) limit) (TooDear K limit) (budget_result K T b limit)
    budget_says limit = record {
      best = λ p e. let planned = (plans_of sheet).budgets limit p e in (((limits_of sheet).budgets limit p).1 e, (planned (plan K T b p)).1 refl, λ others. (planned others).0);
      unquoted = λ task. ((limits_of sheet).budget_unquoted limit task).1;
      none_within = λ e. (((limits_of sheet).none_affordable limit).1 e).1;
    }

    pub deadline_says : (limit : ℕ) → ResultSays K T b (IsDeadline K T (standing b) limit) (TooLong limit) (deadline_result K T b limit)
    deadline_says limit = record {
      best = λ p e. let planned = (plans_of sheet).deadlines limit p e in (((limits_of sheet).deadlines limit p).1 e, (planned (plan K T b p)).1 refl, λ others. (planned others).0);
      unquoted = λ task. ((limits_of sheet).deadline_unquoted limit task).1;
      none_within = λ e. (((limits_of sheet).none_in_time limit).1 e).1;
    }

    module _ (cells : List (Cell C)) (bytes after : List ℕ) where
      -- the words hold of whatever is answered with this result behind 7 and 8, and of what is then written
      abbrev WordsHold : (List ℕ → Result (Point C) QuestionRefusal → Type 0) → Answer (Point C) → Type 0
      WordsHold Words result =
          (r : Result (Point C) QuestionRefusal)
          → answer_of question_told r ≡ limit_answer T b cells bytes result
          → after ≡ limit_bytes K T b (limit_answer T b cells bytes result) bytes
          → Words after r

      limit_tells : {IsBest TooMuch : Point C → Type 0} {result : Answer (Point C)} → ResultSays K T b IsBest TooMuch result → WordsHold (LimitTells K T b IsBest TooMuch) result
      limit_tells says (Ok p) e w =
          let best = says.best p (sym (passed (short_plan T b bytes) 8 _ p (passed (few_cells T b cells) 7 _ p e).1).1) in
          (best.0, has_plan b p bytes after best.1 best.2 (w ∙ ap (λ (a : Answer (Point C)). limit_bytes K T b a bytes) (sym e)))
      limit_tells says (Err TooFewCells) e w = tt
      limit_tells says (Err TooShort) e w = tt
      limit_tells says (Err (Unquoted task)) e w = says.unquoted task (refused_behind _ _ _ (carrying 9 task) (omega arith) e)
      limit_tells says (Err NoneWithin) e w = says.none_within (refused_behind _ _ _ (plain 10) (omega arith) e)

      pub budget_tells : (limit : C) → WordsHold (BudgetTells K T b limit) (budget_result K T b limit)
      budget_tells limit = limit_tells (budget_says limit)

      pub deadline_tells : (limit : ℕ) → WordsHold (DeadlineTells K T b limit) (deadline_result K T b limit)
      deadline_tells limit = limit_tells (deadline_says limit)
