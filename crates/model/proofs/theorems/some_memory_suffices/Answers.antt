use Rattle.model.proofs.theorems.some_memory_suffices.Goals as goal
use Rattle.model.proofs.Bargains.{some_memory_suffices}

pub returns : goal.returns
returns g c = some_memory_suffices g.C.Cost.kind
