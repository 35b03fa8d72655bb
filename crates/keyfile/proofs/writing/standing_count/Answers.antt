use Rattle.std.proofs.Common.{rules}
use Rattle.std.proofs.lemmas.List.{length-map}
use Rattle.std.proofs.lemmas.List.Sums.{length-filter}
use Rattle.keyfile.proofs.writing.standing_count.Goals as goal

pub returns-clause-value : goal.returns-clause-value
returns-clause-value c = rw (length-map, length-filter) (search rules)
