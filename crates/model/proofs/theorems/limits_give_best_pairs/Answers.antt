use Rattle.model.proofs.theorems.limits_give_best_pairs.Goals as goal
use Rattle.model.proofs.LimitsInWords.{limits_give_best_pairs}

pub returns : goal.returns
returns g c = limits_give_best_pairs c.laws_hold.ensures
