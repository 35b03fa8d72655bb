use Rattle.model.proofs.theorems.enough_memory_is_answered.Goals as goal
use Rattle.model.proofs.Bargains.{enough_memory_is_answered}

pub returns : goal.returns
returns g c = enough_memory_is_answered g.C.Cost.kind
