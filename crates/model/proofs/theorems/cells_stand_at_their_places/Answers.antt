use Rattle.model.proofs.theorems.cells_stand_at_their_places.Goals as goal
use Rattle.model.proofs.Tables.{cells_stand_at_their_places}

pub returns : goal.returns
returns g c = cells_stand_at_their_places g.C.Cost.kind
