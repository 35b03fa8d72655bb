use Rattle.model.proofs.theorems.greatest_times_are_quoted.Goals as goal
use Rattle.model.proofs.Spans.{greatest_times_are_quoted}

pub returns : goal.returns
returns g c = greatest_times_are_quoted
