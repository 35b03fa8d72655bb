use Rattle.worked.proofs.cases.printed_cases_hold.Goals as goal
use Rattle.worked.proofs.Asked.{gives, refuses, front_gives, front_too_few, limit_too_few}
use Rattle.worked.proofs.SameGrades.{same_points, same_answer}
use Rattle.worked.specs.Cases.{graded, front_A, front_G}
use Rattle.worked.specs.Samples.{X, A, G, no_stages, one_task, empty_card, card_of, table_of}
use Rattle.costs.specs.Cents.{cents_kind}
use Rattle.costs.specs.Grade.{grade, grade_kind}
use Rattle.model.specs.Limit.{budget_result, deadline_result}
use Rattle.tariffs.specs.Card.{card_quote}
use Rattle.std.specs.Option.{option_map}
use Rattle.std.proofs.Common.{refl, ap}

pub returns : goal.returns
returns c = record {
  seven_minutes_at_a_hundred_cents_cost_twelve = refl;
  too_slow_for_a_day = λ card rate e. ap (λ lines. card_quote lines 0 1000000) e;
  within_a_day = λ card rate e. ap (λ lines. option_map (λ q. q.minutes) (card_quote lines 0 1000000)) e;
  line_too_slow_for_a_day = λ rate. refl;
  line_within_a_day = λ rate. refl;
  card_A_means_A = λ card e. ap card_of e;
  card_without_lines_means_empty_card = λ card e. ap card_of e;
  table_G_means_G = λ table e. ap table_of e;
  front_of_X_by_A = refl;
  front_by_A_is_given = front_gives cents_kind A X front_A refl;
  x_by_A_needs_51_cells = refl;
  fifty_cells_are_too_few = front_too_few cents_kind A X 50 refl;
  fifty_cells_are_too_few_for_budgets = λ limit. limit_too_few cents_kind A X 50 refl (budget_result cents_kind A X limit);
  fifty_cells_are_too_few_for_deadlines = λ limit. limit_too_few cents_kind A X 50 refl (deadline_result cents_kind A X limit);
  fifty_one_cells_suffice = λ cells points e f. rw (e, f) refl;
  budget_399 = gives cents_kind A X _ _ _ refl refl refl;
  budget_260 = gives cents_kind A X _ _ _ refl refl refl;
  budget_259 = gives cents_kind A X _ _ _ refl refl refl;
  budget_219_is_below_every_cost = refuses cents_kind A X _ _ refl;
  deadline_5 = gives cents_kind A X _ _ _ refl refl refl;
  deadline_2_is_below_every_length = refuses cents_kind A X _ _ refl;
  front_of_X_by_G = same_points _ _ refl;
  front_by_G_is_given = front_gives grade_kind G X front_G (same_points _ _ refl);
  budget_of_grade_1 = gives grade_kind G X _ _ _ (same_answer (budget_result grade_kind G X (grade 1)) (graded 13 1) refl) refl refl;
  front_without_stages = refl;
  front_without_stages_is_given = front_gives cents_kind A no_stages _ refl;
  front_without_machines = refl;
  front_without_machines_is_given = front_gives cents_kind empty_card one_task _ refl;
  budget_without_machines = λ limit. refuses cents_kind empty_card one_task _ _ refl;
}
