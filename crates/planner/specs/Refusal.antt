-- The numbers of the refusals of questions, and what they carry
use Rattle.refusals.specs.Answer.{Refused, plain, carrying}
use Rattle.planner.specs.declared.refusal.QuestionRefusal.{QuestionRefusal}
use Rattle.planner.specs.declared.refusal.QuestionRefusal.TheVariants.{TooFewCells, TooShort, Unquoted, NoneWithin}

abbrev pub question_told : QuestionRefusal → Refused
question_told TooFewCells = plain 7
question_told TooShort = plain 8
question_told (Unquoted task) = carrying 9 task
question_told NoneWithin = plain 10
