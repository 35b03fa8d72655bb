use Rattle.std.proofs.Common.{◌≡◌, length}
use Rattle.cells.specs.Memory.{row_costs}
use Rattle.planner.proofs.Points.{Written}
use Rattle.planner.proofs.scan.write_points.Given as goal

abbrev pub invariant-loop-minute : goal.invariant-loop-minute
invariant-loop-minute g l =
    (length l.points ≡ length l.initial.points)
    × Written g.C.Cost.kind (row_costs g.C.Cost.kind l.rows.layout l.rows.cells.now 0) l.initial.points l.points l.minute l.count
