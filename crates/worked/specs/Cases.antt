-- The printed cases as one statement
use Rattle.std.specs.Prelude.{◌≡◌, ℕ, List, [], ◌∷◌, length, Some, None, Ok}
use Rattle.std.specs.Option.{option_map}
use Rattle.refusals.specs.Answer.{plain, carrying}
use Rattle.costs.specs.Cents.{cents, cents_kind}
use Rattle.costs.specs.Grade.{grade, grade_kind}
use Rattle.costs.specs.declared.cents.Cents.{Cents}
use Rattle.costs.specs.declared.grade.Grade.{Grade}
use Rattle.tariffs.specs.declared.card.RateCard.{RateCard}
use Rattle.tariffs.specs.declared.table.QuoteTable.{QuoteTable}
use Rattle.tariffs.specs.Charge.{charge_of}
use Rattle.tariffs.specs.Line.{line, line_quote}
use Rattle.tariffs.specs.Card.{lines_of, card_meaning}
use Rattle.tariffs.specs.Table.{table_meaning}
use Rattle.model.specs.declared.cell.Cell.{Cell}
use Rattle.model.specs.declared.point.Point.{Point}
use Rattle.model.specs.Front.{front}
use Rattle.model.specs.Cell.{cells_needed}
use Rattle.model.specs.Question.{front_answer}
use Rattle.worked.specs.Samples.{X, lines_A, A, rows_G, G, no_stages, one_task, empty_card}
use Rattle.worked.specs.Asked.{FrontGives, FrontTooFew, BudgetGives, BudgetRefused, BudgetTooFew, DeadlineGives, DeadlineRefused, DeadlineTooFew}

-- a length and a cost, in cents and as a grade
abbrev pub priced : ℕ → ℕ → Point Cents
priced length amount = record { length = length; cost = cents amount }

abbrev pub graded : ℕ → ℕ → Point Grade
graded length number = record { length = length; cost = grade number }

-- the fronts of X, by A and by G
abbrev pub front_A : List (Point Cents)
front_A =
    priced 3 400 ∷ priced 4 375 ∷ priced 6 300 ∷ priced 7 285 ∷ priced 8 275 ∷ priced 9 260 ∷ priced 12 245 ∷ priced 13 235 ∷ priced 16 220 ∷ []

abbrev pub front_G : List (Point Grade)
front_G = graded 6 9 ∷ graded 8 4 ∷ graded 13 1 ∷ []

pub record PrintedCases : Type 0 where
  -- charges and times
  pub seven_minutes_at_a_hundred_cents_cost_twelve : charge_of 100 7 ≡ cents 12
  pub too_slow_for_a_day : (card : RateCard) (rate : ℕ) → lines_of card ≡ line 694 rate ∷ []
      → (card_meaning card).quote 0 1000000 ≡ None
  pub within_a_day : (card : RateCard) (rate : ℕ) → lines_of card ≡ line 695 rate ∷ []
      → option_map (λ q. q.minutes) ((card_meaning card).quote 0 1000000) ≡ Some 1439
  -- and of any line by itself, on a card or not
  pub line_too_slow_for_a_day : (rate : ℕ) → line_quote (line 694 rate) 1000000 ≡ None
  pub line_within_a_day : (rate : ℕ) → option_map (λ q. q.minutes) (line_quote (line 695 rate) 1000000) ≡ Some 1439
  -- every card of these lines, and every table over these rows, has the meaning taken here
  pub card_A_means_A : (card : RateCard) → lines_of card ≡ lines_A → card_meaning card ≡ A
  pub card_without_lines_means_empty_card : (card : RateCard) → lines_of card ≡ [] → card_meaning card ≡ empty_card
  pub table_G_means_G : (table : QuoteTable) → table.rows.now ≡ rows_G → table_meaning table ≡ G
  -- X by A
  pub front_of_X_by_A : front cents_kind A X ≡ front_A
  pub front_by_A_is_given : FrontGives cents_kind A X front_A
  pub x_by_A_needs_51_cells : cells_needed A X ≡ 51
  pub fifty_cells_are_too_few : FrontTooFew cents_kind A X 50
  pub fifty_cells_are_too_few_for_budgets : (limit : Cents) → BudgetTooFew cents_kind A X limit 50
  pub fifty_cells_are_too_few_for_deadlines : (limit : ℕ) → DeadlineTooFew cents_kind A X limit 50
  pub fifty_one_cells_suffice : (cells : List (Cell Cents)) (points : List (Point Cents)) → length cells ≡ 51 → length points ≡ 9
      → front_answer cents_kind A X cells points ≡ Ok 9
  pub budget_399 : BudgetGives cents_kind A X (cents 399) (priced 4 375) (2 ∷ 1 ∷ 2 ∷ [])
  pub budget_260 : BudgetGives cents_kind A X (cents 260) (priced 9 260) (1 ∷ 0 ∷ 1 ∷ [])
  pub budget_259 : BudgetGives cents_kind A X (cents 259) (priced 12 245) (1 ∷ 0 ∷ 0 ∷ [])
  pub budget_219_is_below_every_cost : BudgetRefused cents_kind A X (cents 219) (plain 10)
  pub deadline_5 : DeadlineGives cents_kind A X 5 (priced 4 375) (2 ∷ 1 ∷ 2 ∷ [])
  pub deadline_2_is_below_every_length : DeadlineRefused cents_kind A X 2 (plain 10)
  -- X by G
  pub front_of_X_by_G : front grade_kind G X ≡ front_G
  pub front_by_G_is_given : FrontGives grade_kind G X front_G
  pub budget_of_grade_1 : BudgetGives grade_kind G X (grade 1) (graded 13 1) (0 ∷ 0 ∷ 1 ∷ [])
  -- nothing to do, and nothing to do it with
  pub front_without_stages : front cents_kind A no_stages ≡ priced 0 0 ∷ []
  pub front_without_stages_is_given : FrontGives cents_kind A no_stages (priced 0 0 ∷ [])
  pub front_without_machines : front cents_kind empty_card one_task ≡ []
  pub front_without_machines_is_given : FrontGives cents_kind empty_card one_task []
  pub budget_without_machines : (limit : Cents) → BudgetRefused cents_kind empty_card one_task limit (carrying 9 0)
