use Rattle.numbers.specs.Number.{spelled}
use Rattle.numbers.proofs.writing.number_len.Goals as goal

pub returns : goal.returns
unfolding spelled
returns c = record { value = c.groups_len.ensures.value; few = c.groups_len.ensures.few }
