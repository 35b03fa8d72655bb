use Rattle.std.proofs.Common.{◌≡◌, ◌≤◌}
use Rattle.sheets.specs.Book.{book}
use Rattle.model.specs.Assignment.{stage_tasks}
use Rattle.model.specs.Allowance.{cost_until}
use Rattle.planner.proofs.FirstList.{NoneBefore, ListedBefore}
use Rattle.planner.proofs.plan.first_list.Given as goal

abbrev pub invariant-stages : goal.invariant-stages
invariant-stages g l =
    (l.left ≤ l.point.length)
    × ListedBefore g.T.Cost.Cost.kind (g.T.Tariff.meaning l.timed.priced.tariff.now) (book l.timed.priced.sheet.now) l.point l.stage l.left l.spent l.list

abbrev pub invariant-loop-allowance : goal.invariant-loop-allowance
invariant-loop-allowance g l =
    (l.left ≡ l.initial.left) × (l.allowance ≤ l.left)
    × ListedBefore g.T.Cost.Cost.kind (g.T.Tariff.meaning l.timed.priced.tariff.now) (book l.timed.priced.sheet.now) l.point l.stage l.left l.spent l.list
    × NoneBefore g.T.Cost.Cost.kind (g.T.Tariff.meaning l.timed.priced.tariff.now) (book l.timed.priced.sheet.now) l.point l.stage l.left l.spent l.allowance
    × (l.cost ≡ cost_until g.T.Cost.Cost.kind (g.T.Tariff.meaning l.timed.priced.tariff.now) (stage_tasks (book l.timed.priced.sheet.now).tasks l.stage) l.allowance)
