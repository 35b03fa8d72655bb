use Rattle.model.proofs.theorems.plans_go_by_the_first_list.Goals as goal
use Rattle.model.proofs.Plans.{plans_go_by_the_first_list}

pub returns : goal.returns
returns g c = plans_go_by_the_first_list c.laws_hold.ensures
