use Rattle.model.proofs.theorems.front_is_where_costs_drop.Goals as goal
use Rattle.model.proofs.Scans.{front_is_where_costs_drop}

pub returns : goal.returns
returns g c = front_is_where_costs_drop c.laws_hold.ensures
