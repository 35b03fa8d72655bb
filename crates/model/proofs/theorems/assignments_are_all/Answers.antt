use Rattle.model.proofs.theorems.assignments_are_all.Goals as goal
use Rattle.model.proofs.Assignments.{assignments_are_all}

pub returns : goal.returns
returns g c = assignments_are_all
