use Rattle.std.proofs.Common.{◌≡◌, take}
use Rattle.model.specs.Assignment.{stage_tasks}
use Rattle.model.specs.Allowance.{greatest_time}
use Rattle.cells.proofs.spans.greatest_time.Given as goal

abbrev pub invariant-loop-number : goal.invariant-loop-number
invariant-loop-number g l = l.greatest ≡ greatest_time (g.T.Tariff.meaning l.timed.priced.tariff.now) (stage_tasks (take l.number l.task-items) l.stage)
