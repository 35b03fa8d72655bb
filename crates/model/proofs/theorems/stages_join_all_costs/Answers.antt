use Rattle.model.proofs.theorems.stages_join_all_costs.Goals as goal
use Rattle.model.proofs.Joins.{stages_join_all_costs}

pub returns : goal.returns
returns g c = stages_join_all_costs c.laws_hold.ensures
