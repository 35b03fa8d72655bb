-- The numbers of the refusals of a hire, each with the argument that it is about
use Rattle.refusals.specs.Answer.{Refused, carrying}
use Rattle.hire.specs.declared.refusal.HireRefusal.{HireRefusal}
use Rattle.hire.specs.declared.refusal.HireRefusal.TheVariants.{Work, FullCard, OutOfRange}

abbrev pub hire_told : HireRefusal → Refused
hire_told Work = carrying 3 1
hire_told (FullCard argument) = carrying 4 argument
hire_told (OutOfRange argument) = carrying 5 argument
