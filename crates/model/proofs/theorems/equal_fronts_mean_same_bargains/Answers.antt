use Rattle.model.proofs.theorems.equal_fronts_mean_same_bargains.Goals as goal
use Rattle.model.proofs.Bargains.{equal_fronts_mean_same_bargains}

pub returns : goal.returns
returns g c = equal_fronts_mean_same_bargains c.laws_hold.ensures
