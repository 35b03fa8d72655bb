use Rattle.model.proofs.theorems.questions_keep_memory.Goals as goal
use Rattle.model.proofs.Questions.{questions_keep_memory}

pub returns : goal.returns
returns g c = questions_keep_memory g.C.Cost.kind
