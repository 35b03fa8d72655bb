use Rattle.std.proofs.Common.{◌≡◌, None}
use Rattle.model.specs.Scan.{first_below}
use Rattle.cells.specs.Memory.{row_costs}
use Rattle.planner.proofs.limits.first_within.Given as goal

abbrev pub invariant-loop-length : goal.invariant-loop-length
invariant-loop-length g l = first_below g.C.Cost.kind (row_costs g.C.Cost.kind l.rows.layout l.rows.cells.now 0) l.limit l.length ≡ None
