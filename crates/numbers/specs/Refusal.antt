-- The refusals of numbers by number, with the place that they carry
use Rattle.refusals.specs.Answer.{Refused, carrying}
use Rattle.numbers.specs.declared.refusal.NumberRefusal.{NumberRefusal}
use Rattle.numbers.specs.declared.refusal.NumberRefusal.TheVariants.{EndsEarly, Misspelt}

abbrev pub number_told : NumberRefusal → Refused
number_told (EndsEarly place) = carrying 11 place
number_told (Misspelt place) = carrying 12 place
