use Rattle.model.proofs.theorems.better_bargains_are_shown.Goals as goal
use Rattle.model.proofs.BetterBargains.{better_bargains_are_shown}

pub returns : goal.returns
returns g c = better_bargains_are_shown c.laws_hold.ensures
