use Rattle.model.proofs.theorems.fronts_without_stages_or_quotes.Goals as goal
use Rattle.model.proofs.FrontEnds.{fronts_without_stages_or_quotes}

pub returns : goal.returns
returns g c = fronts_without_stages_or_quotes c.laws_hold.ensures
