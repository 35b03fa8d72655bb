use Rattle.model.proofs.theorems.refused_questions_alter_nothing.Goals as goal
use Rattle.model.proofs.Questions.{refused_questions_alter_nothing}

pub returns : goal.returns
returns g c = refused_questions_alter_nothing g.C.Cost.kind
