use Rattle.model.proofs.theorems.limits_are_shared_out.Goals as goal
use Rattle.model.proofs.Equations.{limits_are_shared_out}

pub returns : goal.returns
returns g c = limits_are_shared_out c.laws_hold.ensures
