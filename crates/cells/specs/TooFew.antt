-- The number of the refusal of too few cells
use Rattle.refusals.specs.Answer.{Refused, plain}
use Rattle.cells.specs.declared.refusal.TooFewCells.{TooFewCells}

abbrev pub too_few_told : TooFewCells → Refused
too_few_told refusal = plain 7
