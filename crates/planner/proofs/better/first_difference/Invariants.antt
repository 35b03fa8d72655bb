use Rattle.std.proofs.Common.{◌≡◌, drop}
use Rattle.std.specs.Slice.Iter.{iter_rest}
use Rattle.model.specs.Better.{first_difference}
use Rattle.planner.proofs.better.first_difference.Given as goal

abbrev pub invariant-loop-point : goal.invariant-loop-point
invariant-loop-point g l =
    first_difference g.C.Cost.kind (drop l.point-index l.first) (iter_rest l.others)
    ≡ first_difference g.C.Cost.kind l.first l.second
