use Rattle.model.proofs.theorems.cheapest_is_cheapest.Goals as goal
use Rattle.model.proofs.Allowances.{cheapest_is_cheapest}

pub returns : goal.returns
returns g c = cheapest_is_cheapest c.laws_hold.ensures
