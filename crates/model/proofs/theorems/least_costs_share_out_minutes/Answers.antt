use Rattle.model.proofs.theorems.least_costs_share_out_minutes.Goals as goal
use Rattle.model.proofs.LeastCosts.{least_costs}

pub returns : goal.returns
returns g c = least_costs c.laws_hold.ensures
