use Rattle.model.proofs.theorems.fronts_answer_limits.Goals as goal
use Rattle.model.proofs.FrontAnswering.{fronts_answer_limits}

pub returns : goal.returns
returns g c = fronts_answer_limits c.laws_hold.ensures
