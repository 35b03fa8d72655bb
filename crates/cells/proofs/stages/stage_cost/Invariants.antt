use Rattle.std.proofs.Common.{◌≡◌, drop, Some}
use Rattle.model.specs.Assignment.{stage_tasks}
use Rattle.model.specs.Allowance.{joined, cost_within}
use Rattle.cells.proofs.stages.stage_cost.Given as goal

abbrev pub invariant-loop-number : goal.invariant-loop-number
invariant-loop-number g l =
    let K = g.T.Cost.Cost.kind in
    let T = g.T.Tariff.meaning l.timed.priced.tariff.now in
    joined K (Some l.sum) (cost_within K T (stage_tasks (drop l.number l.task-items) l.stage) l.allowance) ≡ cost_within K T (stage_tasks l.task-items l.stage) l.allowance
