use Rattle.model.proofs.theorems.front_lists_unbeaten_pairs.Goals as goal
use Rattle.model.proofs.FrontsInWords.{front_in_words}

pub returns : goal.returns
returns g c = front_in_words c.laws_hold.ensures
